-- "may be copied, saved and compared byte for byte": no two images hold the same book (proofs/OneImage.antt, `one_image`).
-- Assumes nothing.
use Rattle.std.specs.Prelude.{◌≡◌, true, List, ℕ}
use Rattle.image.specs.Image.{book_in, is_image, Canonical}

abbrev pub OneImage : Type 0
OneImage =
    (l m : List ℕ) → is_image l ≡ true → is_image m ≡ true → Canonical l → Canonical m → book_in l ≡ book_in m → l ≡ m
