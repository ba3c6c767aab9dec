pub mod SheetU
pub mod Unlike
