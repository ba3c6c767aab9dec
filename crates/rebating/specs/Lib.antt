pub mod Rebating
