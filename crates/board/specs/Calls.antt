-- What each exported function promises: its refusal number, the numbers it writes through pointers and every lent byte afterwards, granted and
-- refused alike. On bytes that are a table it is the call of document 01 on the table that they mean; on others it is 2, and nothing changes.
use Rattle.std.specs.Prelude.{ℕ, ◌+◌, ◌≡◌, cond, List, [], ◌∷◌, ◌⊎◌, eqb, length, Some, None, Result}
use Rattle.std.specs.Prelude as Prelude
use Rattle.std.proofs.Math.Option.{Option, none, some}
use Rattle.rules.specs.declared.Setting.TheVariants.{Board}
use Rattle.rules.specs.declared.Hold.{Hold}
use Rattle.rules.specs.declared.Hold.TheVariants as hold
use Rattle.rules.specs.declared.refusals.Refusal.{Refusal}
use Rattle.rules.specs.declared.AskAnswer.{AskAnswer}
use Rattle.rules.specs.Sizes.{image_bytes, block_bytes}
use Rattle.rules.specs.Settings.{undo_bytes}
use Rattle.rules.specs.Table.{Table}
use Rattle.rules.specs.Create.{Change}
use Rattle.rules.specs.Ask.{ask_word}
use Rattle.rules.specs.Refusals.{Case, case, First, WrongSize}
use Rattle.rules.specs.Calls.{Opening, Opens, patch_number, hard_or_soft, Creation, Creates}
use Rattle.rules.specs.Calls.{sent_set, Writing, Writes}
use Rattle.rules.specs.Calls.{Completion, Completes, ask_number, Asks, answer_number, counted, Counts}
use Rattle.rules.specs.Joint.{Joint, CompletesWrites, second_set}
use Rattle.layout.specs.Layout.{table_bytes, IsTable, table_in, bytes_of}

-- the table's bytes afterwards: a granted call writes the whole table, a refused one changes no byte of it
abbrev pub table_after : ℕ → List ℕ → Table → List ℕ
table_after refusal came next = cond (eqb refusal 0) (bytes_of next) came

-- 1 where a lent buffer has not its size, else 2: what is answered where there is no table
abbrev pub no_table_cases : List ℕ → Type 0 → List Case
no_table_cases table wrong = case 1 wrong ∷ case 2 (IsTable table → ⊥) ∷ []

-- OPEN asks nothing of the bytes but their length. Refused 15, it writes the empty table with first 1
pub record OpenCall (table : List ℕ) (first refusal : ℕ) (after : List ℕ) : Type 0 where
  pub sized : length table ≡ table_bytes → (o : Opening) × Opens Board first o × (refusal ≡ answer_number o.answer) × (after ≡ bytes_of o.table)
  pub other : (length table ≡ table_bytes → ⊥) → (refusal ≡ 2) × (after ≡ table)

-- CREATE. hold: 0 no word, 1 hard, 2 + r soft with undo room r
abbrev pub hold_number : Option Hold → ℕ
hold_number none = 0
hold_number (some hold.Hard) = 1
hold_number (some (hold.Soft r)) = 2 + r

-- what a create leaves
pub record CreateEnd : Type 0 where
  pub refusal : ℕ
  pub number : ℕ
  pub hold : ℕ
  pub table : List ℕ
  pub image : List ℕ
  pub undo : List ℕ

abbrev pub create_end : List ℕ → Creation → CreateEnd
create_end table o = record {
  refusal = answer_number o.answer;
  number = patch_number o.answer;
  hold = hold_number (hard_or_soft o.answer);
  table = table_after (answer_number o.answer) table o.table;
  image = o.image;
  undo = o.undo;
}

abbrev pub create_none : List ℕ → List ℕ → List ℕ → ℕ → CreateEnd
create_none table image undo k = record { refusal = k; number = 0; hold = 0; table = table; image = image; undo = undo }

pub record CreateCall (table image undo : List ℕ) (c : Change) (e : CreateEnd) : Type 0 where
  pub is_table : IsTable table → (o : Creation) × Creates (table_in table) image undo c o × (e ≡ create_end table o)
  pub no_table : (IsTable table → ⊥) → First (no_table_cases table (WrongSize image_bytes image ⊎ WrongSize (undo_bytes Board) undo)) e.refusal
      × (e ≡ create_none table image undo e.refusal)

-- WRITE. What a write leaves; set: bit i where slot i was sent
pub record WriteEnd : Type 0 where
  pub refusal : ℕ
  pub set : ℕ
  pub table : List ℕ
  pub image : List ℕ
  pub undo : List ℕ
  pub handed : List ℕ

abbrev pub write_end : List ℕ → Writing → WriteEnd
write_end table o = record {
  refusal = answer_number o.answer;
  set = sent_set o.answer;
  table = table_after (answer_number o.answer) table o.table;
  image = o.image;
  undo = o.undo;
  handed = o.block;
}

abbrev pub write_none : List ℕ → List ℕ → List ℕ → List ℕ → ℕ → WriteEnd
write_none table image undo handed k = record { refusal = k; set = 0; table = table; image = image; undo = undo; handed = handed }

pub record WriteCall (table image undo handed : List ℕ) (block : ℕ) (e : WriteEnd) : Type 0 where
  pub is_table : IsTable table → (o : Writing) × Writes (table_in table) image undo handed block o × (e ≡ write_end table o)
  pub no_table : (IsTable table → ⊥)
      → First (no_table_cases table (WrongSize image_bytes image ⊎ (WrongSize (undo_bytes Board) undo ⊎ WrongSize block_bytes handed))) e.refusal
      × (e ≡ write_none table image undo handed e.refusal)

-- COMPLETE
pub record CompleteCall (table : List ℕ) (block refusal : ℕ) (after : List ℕ) : Type 0 where
  pub is_table : IsTable table → (o : Completion) × Completes (table_in table) block o × (refusal ≡ answer_number o.answer)
      × (after ≡ table_after (answer_number o.answer) table o.table)
  pub no_table : (IsTable table → ⊥) → (refusal ≡ 2) × (after ≡ table)

-- THE JOINT CALL. second: the write's refusal number, 0 granted; or, where completing was refused, not tried, a number that no refusal has
abbrev pub not_tried : ℕ
not_tried = 4294967295

abbrev pub second_as : Prelude.Option (Result ℕ Refusal) → ℕ
second_as (Some a) = answer_number a
second_as None = not_tried

-- what it leaves; first: completing's refusal number; set: bit i where slot i was sent
pub record JointEnd : Type 0 where
  pub first : ℕ
  pub second : ℕ
  pub set : ℕ
  pub table : List ℕ
  pub image : List ℕ
  pub undo : List ℕ
  pub handed : List ℕ

-- the table is written where completing is granted, also where the write is refused: the completion stands
abbrev pub joint_end : List ℕ → Joint → JointEnd
joint_end table o = record {
  first = answer_number o.first;
  second = second_as o.second;
  set = second_set o.second;
  table = table_after (answer_number o.first) table o.table;
  image = o.image;
  undo = o.undo;
  handed = o.block;
}

-- where there is no table, completing is refused 2, whatever is lent
abbrev pub joint_none : List ℕ → List ℕ → List ℕ → List ℕ → JointEnd
joint_none table image undo handed = record { first = 2; second = not_tried; set = 0; table = table; image = image; undo = undo; handed = handed }

pub record JointCall (table image undo handed : List ℕ) (x y : ℕ) (e : JointEnd) : Type 0 where
  pub is_table : IsTable table → (o : Joint) × CompletesWrites (table_in table) image undo handed x y o × (e ≡ joint_end table o)
  pub no_table : (IsTable table → ⊥) → e ≡ joint_none table image undo handed

-- ASK. state: 0 no word, 1 waiting, 2 in flight, 3 committed
pub record AskCall (table : List ℕ) (asked refusal state : ℕ) : Type 0 where
  pub is_table : IsTable table → (a : AskAnswer) × Asks (table_in table) asked a × (refusal ≡ ask_number a) × (state ≡ ask_word a)
  pub no_table : (IsTable table → ⊥) → (refusal ≡ 2) × (state ≡ 0)

-- COUNT
pub record CountCall (table : List ℕ) (block refusal count : ℕ) : Type 0 where
  pub is_table : IsTable table → (a : Result ℕ Refusal) × Counts (table_in table) block a × (refusal ≡ answer_number a) × (count ≡ counted a)
  pub no_table : (IsTable table → ⊥) → (refusal ≡ 2) × (count ≡ 0)
