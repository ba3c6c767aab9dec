-- Where each part of a book stands among the words of its image: the offsets, by name. The code's constants have the same numbers
-- (src/lib.rt).
-- Assumes nothing.
use Rattle.std.specs.Prelude.{ℕ, ◌+◌, ◌*◌}

-- how many words an image has, and the first of them: the bytes S, L, W and the version of this layout, 1
abbrev pub word_count : ℕ
word_count = 1279

abbrev pub mark : ℕ
mark = 22498387

-- the sheet in force: whether there is one, its fields and its period (year, month, number of months)
abbrev pub loaded_at : ℕ
loaded_at = 1

abbrev pub fields_at : ℕ
fields_at = 2

abbrev pub period_at : ℕ
period_at = 98

-- what it comes to: the 112 charges, m of each arrangement, the peak share, t and the days
abbrev pub charges_at : ℕ
charges_at = 101

abbrev pub levels_at : ℕ
levels_at = 213

abbrev pub peak_at : ℕ
peak_at = 215

abbrev pub months_at : ℕ
months_at = 216

abbrev pub days_at : ℕ
days_at = 217

-- what is kept for UNDO: whether there is something; the sheet before, in the order of the one in force; the state of each place
abbrev pub kept_at : ℕ
kept_at = 218

abbrev pub kept_loaded_at : ℕ
kept_loaded_at = 219

abbrev pub kept_fields_at : ℕ
kept_fields_at = 220

abbrev pub kept_period_at : ℕ
kept_period_at = 316

abbrev pub kept_states_at : ℕ
kept_states_at = 319

abbrev pub kept_words : ℕ
kept_words = 133

-- the places: each has its state, whether there is a direction, and the 27 numbers of its tariff in the order of PUT
abbrev pub places_at : ℕ
places_at = 351

abbrev pub place_words : ℕ
place_words = 29

abbrev pub record_at : ℕ
record_at = 2

abbrev pub start_of : ℕ → ℕ
start_of i = places_at + place_words * i
