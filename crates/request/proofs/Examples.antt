-- Lines with what they ask for.
-- Assumes nothing.
use mathlib.Core.Path.{◌≡◌, refl}
use mathlib.Core.List.{[], ◌∷◌}
use Rattle.tariff.specs.Tariff.{all_fourteen}
use Rattle.texts.specs.Texts.{bytes_of}
use Rattle.lines.specs.Words.{parts, not_empty, words}
use Rattle.lines.specs.Numerals.{digits, value_after, value, numbers_in}
use Rattle.naming.specs.declared.CodeStep.TheVariants.{Put, Open, Close, Drop, Ask, Confirm, Direct}
use Rattle.naming.specs.declared.Query.TheVariants.{Benchmark, Maximum, Quote, Trial}
use Rattle.naming.specs.declared.Word.TheVariants.{Set, Undo, On, Tells, Rebate}
use Rattle.naming.specs.Naming.{same, named}
use Rattle.request.specs.declared.Request.TheVariants.{Nothing, Asks, NoCall, Unknown, NotANumber, WrongCount}
use Rattle.request.specs.Requests.{request_of, numbers_of}

blank : request_of (bytes_of "   ") ≡ Nothing
unfolding request_of words parts not_empty
blank = refl

comment : request_of (bytes_of " #set 1 2 3") ≡ Nothing
unfolding request_of words parts not_empty
comment = refl

-- spaces before, between and behind the words, and leading zeros
spaced : request_of (bytes_of "  set  2024 04 3 ") ≡ Asks all_fourteen Set 3
unfolding request_of words parts not_empty same named numbers_in digits value_after value
spaced = refl

spaced_numbers : numbers_of (bytes_of "  set  2024 04 3 ") ≡ 2024 ∷ 4 ∷ 3 ∷ []
unfolding numbers_of words parts not_empty same value_after value
spaced_numbers = refl

greatest : request_of (bytes_of "put 004294967295") ≡ Asks all_fourteen (On Put) 1
unfolding request_of words parts not_empty same named numbers_in digits value_after value
greatest = refl

too_great : request_of (bytes_of "put 7 4294967296 x") ≡ NotANumber 3
unfolding request_of words parts not_empty same named numbers_in digits value_after value
too_great = refl

-- a tab and a carriage return are no spaces
tab : request_of (9 ∷ bytes_of "open 1") ≡ Unknown
unfolding request_of words parts not_empty same named
tab = refl

signed : request_of (bytes_of "open -1 2") ≡ NotANumber 2
unfolding request_of words parts not_empty same named numbers_in digits value_after value
signed = refl

two : request_of (bytes_of "open 1 2") ≡ WrongCount (On Open)
unfolding request_of words parts not_empty same named numbers_in digits value_after value
two = refl

closed : request_of (bytes_of "close 1") ≡ Asks all_fourteen (On Close) 1
unfolding request_of words parts not_empty same named numbers_in digits value_after value
closed = refl

dropped : request_of (bytes_of "drop 1") ≡ Asks all_fourteen (On Drop) 1
unfolding request_of words parts not_empty same named numbers_in digits value_after value
dropped = refl

asked_for : request_of (bytes_of "ask 1") ≡ Asks all_fourteen (On Ask) 1
unfolding request_of words parts not_empty same named numbers_in digits value_after value
asked_for = refl

confirmed : request_of (bytes_of "confirm 1") ≡ Asks all_fourteen (On Confirm) 1
unfolding request_of words parts not_empty same named numbers_in digits value_after value
confirmed = refl

confirmed_bare : request_of (bytes_of "confirm") ≡ WrongCount (On Confirm)
unfolding request_of words parts not_empty same named numbers_in digits value_after value
confirmed_bare = refl

directed : request_of (bytes_of "direct 5") ≡ Asks all_fourteen (On Direct) 1
unfolding request_of words parts not_empty same named numbers_in digits value_after value
directed = refl

directed_bare : request_of (bytes_of "direct") ≡ WrongCount (On Direct)
unfolding request_of words parts not_empty same named numbers_in digits value_after value
directed_bare = refl

cut_short : request_of (bytes_of "confi 1") ≡ Unknown
unfolding request_of words parts not_empty same named numbers_in digits value_after value
cut_short = refl

asked : request_of (bytes_of "benchmark 13 1 0 1") ≡ Asks all_fourteen (Tells Benchmark) 4
unfolding request_of words parts not_empty same named numbers_in digits value_after value
asked = refl

short : request_of (bytes_of "maximum 13 1 0") ≡ WrongCount (Tells Maximum)
unfolding request_of words parts not_empty same named numbers_in digits value_after value
short = refl

quoted : request_of (bytes_of "quote 7 0 1") ≡ Asks all_fourteen (Tells Quote) 3
unfolding request_of words parts not_empty same named numbers_in digits value_after value
quoted = refl

tried : request_of (bytes_of "trial 2024 4 3") ≡ Asks all_fourteen (Tells Trial) 3
unfolding request_of words parts not_empty same named numbers_in digits value_after value
tried = refl

tried_short : request_of (bytes_of "trial 2024 4") ≡ WrongCount (Tells Trial)
unfolding request_of words parts not_empty same named numbers_in digits value_after value
tried_short = refl

taken_back : request_of (bytes_of "undo ") ≡ Asks all_fourteen Undo 0
unfolding request_of words parts not_empty same named numbers_in digits value_after value
taken_back = refl

taken_back_of : request_of (bytes_of "undo 1") ≡ WrongCount Undo
unfolding request_of words parts not_empty same named numbers_in digits value_after value
taken_back_of = refl

taken_back_word : request_of (bytes_of "undo it") ≡ NotANumber 2
unfolding request_of words parts not_empty same named numbers_in digits value_after value
taken_back_word = refl

-- a run over no account, and over one
rebated_none : request_of (bytes_of "rebate") ≡ Asks all_fourteen Rebate 0
unfolding request_of words parts not_empty same named numbers_in digits value_after value
rebated_none = refl

rebated : request_of (bytes_of "rebate 5 0 1 2 100 200 0 0 0 0 0 0 0 0 0 0") ≡ Asks all_fourteen Rebate 16
unfolding request_of words parts not_empty same named numbers_in digits value_after value
rebated = refl

-- a number too few, and one too many
rebated_short : request_of (bytes_of "rebate 5 0 1 2 100 200 0 0 0 0 0 0 0 0 0") ≡ WrongCount Rebate
unfolding request_of words parts not_empty same named numbers_in digits value_after value
rebated_short = refl

rebated_long : request_of (bytes_of "rebate 5 0 1 2 100 200 0 0 0 0 0 0 0 0 0 0 7") ≡ WrongCount Rebate
unfolding request_of words parts not_empty same named numbers_in digits value_after value
rebated_long = refl

-- a desk's number before the call
of_desk : request_of (bytes_of "desk 3 open 4") ≡ Asks 3 (On Open) 1
unfolding request_of words parts not_empty same named numbers_in digits value_after value
of_desk = refl

of_desk_none : request_of (bytes_of "desk 3 rebate") ≡ Asks 3 Rebate 0
unfolding request_of words parts not_empty same named numbers_in digits value_after value
of_desk_none = refl

of_desk_numbers : numbers_of (bytes_of "desk 3 open 4") ≡ 4 ∷ []
unfolding numbers_of words parts not_empty same value_after value
of_desk_numbers = refl

-- the words of the whole line are counted
of_desk_word : request_of (bytes_of "desk 3 open x") ≡ NotANumber 4
unfolding request_of words parts not_empty same named numbers_in digits value_after value
of_desk_word = refl

of_desk_two : request_of (bytes_of "desk 3 open 4 5") ≡ WrongCount (On Open)
unfolding request_of words parts not_empty same named numbers_in digits value_after value
of_desk_two = refl

desk_alone : request_of (bytes_of "desk") ≡ NoCall
unfolding request_of words parts not_empty same named numbers_in digits value_after value
desk_alone = refl

no_call : request_of (bytes_of "desk 3") ≡ NoCall
unfolding request_of words parts not_empty same named numbers_in digits value_after value
no_call = refl

-- told before that the call is unknown
no_desk : request_of (bytes_of "desk 4294967296 opens") ≡ NoCall
unfolding request_of words parts not_empty same named numbers_in digits value_after value
no_desk = refl

two_desks : request_of (bytes_of "desk 3 desk 3 open 4") ≡ Unknown
unfolding request_of words parts not_empty same named numbers_in digits value_after value
two_desks = refl

-- only a first word that begins with # makes a comment
late_comment : request_of (bytes_of "desk 3 #open 4") ≡ Unknown
unfolding request_of words parts not_empty same named numbers_in digits value_after value
late_comment = refl
