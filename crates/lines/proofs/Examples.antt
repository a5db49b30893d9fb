-- Numbers and lines, computed. Assumes nothing.
use Prim.Native.Nat.{ℕ}
use mathlib.Core.Path.{◌≡◌, refl}
use mathlib.Core.List.{[], ◌∷◌}
use lib.ListN.{length}
use Rattle.rules.specs.declared.Hold.TheVariants as hold
use Rattle.lines.specs.declared.types.Word.{Word}
use Rattle.lines.specs.declared.types.Word.TheVariants as word
use Rattle.lines.specs.declared.types.More.{More}
use Rattle.lines.specs.declared.types.More.TheVariants as more
use Rattle.lines.specs.declared.types.Line.{Line}
use Rattle.lines.specs.Decimal.{digits_in, decimal}
use Rattle.lines.specs.Line.{word_text, hold_text, more_text, text_of}

-- ---- numbers

of_0 : decimal 0 ≡ 48 ∷ []
unfolding decimal digits_in
of_0 = refl

of_7 : decimal 7 ≡ 55 ∷ []
unfolding decimal digits_in
of_7 = refl

of_10 : decimal 10 ≡ 49 ∷ 48 ∷ []
unfolding decimal digits_in
of_10 = refl

of_1000000000 : decimal 1000000000 ≡ 49 ∷ 48 ∷ 48 ∷ 48 ∷ 48 ∷ 48 ∷ 48 ∷ 48 ∷ 48 ∷ 48 ∷ []
unfolding decimal digits_in
of_1000000000 = refl

of_18446744073709551615 : decimal 18446744073709551615
    ≡ 49 ∷ 56 ∷ 52 ∷ 52 ∷ 54 ∷ 55 ∷ 52 ∷ 52 ∷ 48 ∷ 55 ∷ 51 ∷ 55 ∷ 48 ∷ 57 ∷ 53 ∷ 53 ∷ 49 ∷ 54 ∷ 49 ∷ 53 ∷ []
unfolding decimal digits_in
of_18446744073709551615 = refl

-- ---- lines

abbrev line : (place : ℕ) → Word → (number : ℕ) → More → Line
line p w n m = record { place = p; word = w; number = n; more = m }

-- 1 open 0
open-granted : text_of (line 1 word.Open 0 more.Nothing) ≡ 49 ∷ 32 ∷ 111 ∷ 112 ∷ 101 ∷ 110 ∷ 32 ∷ 48 ∷ 10 ∷ []
unfolding decimal digits_in word_text hold_text more_text text_of
open-granted = refl

-- 2 create 0 1 hard
create_hard : text_of (line 2 word.Create 0 (more.Patch 1 hold.Hard))
    ≡ 50 ∷ 32 ∷ 99 ∷ 114 ∷ 101 ∷ 97 ∷ 116 ∷ 101 ∷ 32 ∷ 48 ∷ 32 ∷ 49 ∷ 32 ∷ 104 ∷ 97 ∷ 114 ∷ 100 ∷ 10 ∷ []
unfolding decimal digits_in word_text hold_text more_text text_of
create_hard = refl

-- 3 write 0 1
write_one : text_of (line 3 word.Write 0 (more.Patches 1)) ≡ 51 ∷ 32 ∷ 119 ∷ 114 ∷ 105 ∷ 116 ∷ 101 ∷ 32 ∷ 48 ∷ 32 ∷ 49 ∷ 10 ∷ []
unfolding decimal digits_in word_text hold_text more_text text_of
write_one = refl

-- 4 cut 1
cut_one : text_of (line 4 word.Cut 1 more.Nothing) ≡ 52 ∷ 32 ∷ 99 ∷ 117 ∷ 116 ∷ 32 ∷ 49 ∷ 10 ∷ []
unfolding decimal digits_in word_text hold_text more_text text_of
cut_one = refl

-- 7 bad 16
bad_record : text_of (line 7 word.Bad 16 more.Nothing) ≡ 55 ∷ 32 ∷ 98 ∷ 97 ∷ 100 ∷ 32 ∷ 49 ∷ 54 ∷ 10 ∷ []
unfolding decimal digits_in word_text hold_text more_text text_of
bad_record = refl

-- 12 create 0 4 soft
create_soft : text_of (line 12 word.Create 0 (more.Patch 4 (hold.Soft 0)))
    ≡ 49 ∷ 50 ∷ 32 ∷ 99 ∷ 114 ∷ 101 ∷ 97 ∷ 116 ∷ 101 ∷ 32 ∷ 48 ∷ 32 ∷ 52 ∷ 32 ∷ 115 ∷ 111 ∷ 102 ∷ 116 ∷ 10 ∷ []
unfolding decimal digits_in word_text hold_text more_text text_of
create_soft = refl

-- 10 complete 14
complete-refused : text_of (line 10 word.Complete 14 more.Nothing)
    ≡ 49 ∷ 48 ∷ 32 ∷ 99 ∷ 111 ∷ 109 ∷ 112 ∷ 108 ∷ 101 ∷ 116 ∷ 101 ∷ 32 ∷ 49 ∷ 52 ∷ 10 ∷ []
unfolding decimal digits_in word_text hold_text more_text text_of
complete-refused = refl

-- the longest line
longest : length (text_of (line 18446744073709551615 word.Complete 18446744073709551615 (more.Patch 4294967295 hold.Hard))) ≡ 67
unfolding decimal digits_in word_text hold_text more_text text_of
longest = refl
