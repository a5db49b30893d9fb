-- Each exported function's promise, from what the call of `cache` that it wraps has promised. Assumes nothing.
use Prim.Native.Nat.{ℕ, ◌<◌}
use mathlib.Core.Path.{◌≡◌, refl, sym, ap, ap₂, subst, ◌∙◌}
use mathlib.Core.List.{List}
use mathlib.Core.Logic.{◌⊎◌}
use mathlib.Core.Option.{Option, some}
use native.Mathlib.Omega.{arith}
use borrow.Author.Tests.{ne_eqb}
use lib.ListN.{length}
use Rattle.rules.specs.declared.Setting.TheVariants.{Board}
use Rattle.rules.specs.declared.AskAnswer.{AskAnswer}
use Rattle.std.specs.Prelude.{Result, Ok, Err}
use Rattle.rules.specs.declared.Created.{Created}
use Rattle.rules.specs.declared.refusals.Refusal.{Refusal}
use Rattle.rules.specs.Refusals.{number_of}
use Rattle.rules.proofs.Refused.{refusal_not0}
use Rattle.rules.specs.declared.Hold.{Hold}
use Rattle.rules.specs.Settings.{rooms, undo_bytes}
use Rattle.rules.specs.Table.{Table}
use Rattle.rules.specs.Create.{Change, HoldOf}
use Rattle.rules.specs.Ask.{ask_word}
use Rattle.rules.specs.Refusals.{First, WrongSize}
use Rattle.rules.specs.Calls.{Opening, Opens, hard_or_soft, Creation, Accepts, Creates, Writing, Writes}
use Rattle.rules.specs.Calls.{Completion, Completes, ask_number, Asks, answer_number, counted, Counts}
use Rattle.rules.proofs.Rooms.{rooms_most}
use Rattle.layout.specs.Layout.{table_bytes, IsTable, table_in, bytes_of}
use Rattle.board.specs.Calls.{table_after, no_table_cases, OpenCall, hold_number, CreateEnd, create_end, create_none, CreateCall}
use Rattle.board.specs.Calls.{WriteEnd, write_end, write_none, WriteCall, CompleteCall, AskCall, CountCall}
use Rattle.board.specs.Calls.{joint_none, JointCall}

-- ---- open

pub open_other : (table : List ℕ) (first : ℕ) → (length table ≡ table_bytes → ⊥) → OpenCall table first 2 table
open_other table first n = record { sized = λ e. absurd (n e); other = λ d. (refl, refl) }

pub open_here : {table after : List ℕ} {first : ℕ} (o : Opening) (a : Result (Unit {0}) Refusal) → length table ≡ table_bytes
    → Opens Board first o → o.answer ≡ a
    → after ≡ bytes_of o.table
    → OpenCall table first (answer_number a) after
open_here o a e h p q = record { sized = λ d. (o, h, ap answer_number (sym p), q); other = λ n. absurd (n e) }

-- ---- ask and count

pub ask_none : (table : List ℕ) (n : ℕ) → (IsTable table → ⊥) → AskCall table n 2 0
ask_none table n d = record { is_table = λ i. absurd (d i); no_table = λ e. (refl, refl) }

pub ask_here : {table : List ℕ} {n : ℕ} {t : Table} (a b : AskAnswer) → IsTable table → t ≡ table_in table → Asks t n a → a ≡ b → AskCall table n
    (ask_number b) (ask_word b)
ask_here {n = n} a b i e h p = record {
  is_table = λ d. (b, subst (λ (t : Table). Asks t n b) e (subst (Asks _ n) p h), refl, refl);
  no_table = λ d. absurd (d i);
}

pub count_none : (table : List ℕ) (b : ℕ) → (IsTable table → ⊥) → CountCall table b 2 0
count_none table b d = record { is_table = λ i. absurd (d i); no_table = λ e. (refl, refl) }

pub count_here : {table : List ℕ} {n : ℕ} {t : Table} (a b : Result ℕ Refusal) → IsTable table → t ≡ table_in table → Counts t n a → a ≡ b
    → CountCall table n (answer_number b) (counted b)
count_here {n = n} a b i e h p = record {
  is_table = λ d. (b, subst (λ (t : Table). Counts t n b) e (subst (Counts _ n) p h), refl, refl);
  no_table = λ d. absurd (d i);
}

-- ---- complete

pub complete_none : (table : List ℕ) (b : ℕ) → (IsTable table → ⊥) → CompleteCall table b 2 table
complete_none table b d = record { is_table = λ i. absurd (d i); no_table = λ e. (refl, refl) }

module _ {table : List ℕ} {b : ℕ} {t : Table} (o : Completion) (i : IsTable table) (e : t ≡ table_in table) (h : Completes t b o) where
  pub complete_granted_here : {after : List ℕ} → o.answer ≡ Ok tt → after ≡ bytes_of o.table → CompleteCall table b 0 after
  complete_granted_here p q = record {
    is_table = λ d. (
      o,
      subst (λ (x : Table). Completes x b o) e h,
      ap answer_number (sym p),
      q ∙ ap
          (λ (a : Result (Unit {0}) Refusal). table_after (answer_number a) table o.table) (sym p),
    );
    no_table = λ d. absurd (d i);
  }

  pub complete_refused_here : (r : Refusal) → o.answer ≡ Err r → CompleteCall table b (number_of r) table
  complete_refused_here r p = record {
    is_table = λ d. (o, subst (λ (x : Table). Completes x b o) e h, ap answer_number (sym p), rw (p, ne_eqb (number_of r) 0 (refusal_not0 r)));
    no_table = λ d. absurd (d i);
  }

-- ---- create

-- the undo area of the board
board_undo : undo_bytes Board ≡ 1024
unfolding rooms
board_undo = refl

pub create-none : (table image undo : List ℕ) (c : Change) (k : ℕ) → (IsTable table → ⊥)
    → First (no_table_cases table (WrongSize 16384 image ⊎ WrongSize 1024 undo)) k
    → CreateCall table image undo c (create_none table image undo k)
create-none table image undo c k d f = record {
  is_table = λ i. absurd (d i);
  no_table = λ e. (subst (λ (n : ℕ). First (no_table_cases table (WrongSize 16384 image ⊎ WrongSize n undo)) k) (sym board_undo) f, refl);
}

-- a room is below what a set can have, so its number fits
pub hold_fits : {t : Table} {image undo : List ℕ} {c : Change} {o : Creation} {a : Created} → Creates t image undo c o → o.answer ≡ Ok a
    → hold_number (some a.hold) < 4294967296
hold_fits {t} {image} {undo} {c} {o} {a} made p = by (made.grant (ap answer_number p))
  where
    same : {x : Hold} → hard_or_soft o.answer ≡ some x → hold_number (some x) < 4294967296 → hold_number (some a.hold) < 4294967296
    same e l = subst (λ (y : Option Hold). hold_number y < 4294967296) (sym e ∙ ap hard_or_soft p) l

    below : {x : Hold} → HoldOf t.setting t.slots c.block x → hold_number (some x) < 4294967296
    below (HoldOf.hard w) = omega arith
    below (HoldOf.soft w l) = omega (arith, l.within, rooms_most t.setting)

    by : Accepts t image undo c o → hold_number (some a.hold) < 4294967296
    by (Accepts.takes own g) = same g.says (below g.hard-or-soft)
    by (Accepts.joins j g) = same g.says (omega arith)

module _ {table image undo : List ℕ} {c : Change} {t : Table} (o : Creation) (i : IsTable table) (e : t ≡ table_in table) (h : Creates t image undo c o) where
  -- the creation, its answer written out
  abbrev created_with : Result Created Refusal → Creation
  created_with a = record { answer = a; table = o.table; image = o.image; undo = o.undo }

  create-end : (a : Result Created Refusal) → o.answer ≡ a → (s : CreateEnd) → s ≡ create_end table (created_with a) → CreateCall table image undo c s
  create-end a p s q = record {
    is_table = λ d. (
      o,
      subst (λ (x : Table). Creates x image undo c o) e h,
      subst (λ (y : Result Created Refusal). s ≡ create_end table (created_with y)) (sym p) q,
    );
    no_table = λ d. absurd (d i);
  }

  pub create_granted_here : {after : List ℕ} {held : ℕ} (a : Created) → o.answer ≡ Ok a → held ≡ hold_number (some a.hold)
      → after ≡ bytes_of o.table
      → CreateCall table image undo c (record { refusal = 0; number = a.number; hold = held; table = after; image = o.image; undo = o.undo })
  create_granted_here a p q s =
      create-end (Ok a) p _
      (ap₂ (λ (x : ℕ) (y : List ℕ). record { refusal = 0; number = a.number; hold = x; table = y; image = o.image; undo = o.undo }) q s)

  pub create_refused_here : (r : Refusal) → o.answer ≡ Err r
      → CreateCall table image undo c (record { refusal = number_of r; number = 0; hold = 0; table = table; image = o.image; undo = o.undo })
  create_refused_here r p = create-end (Err r) p _ (rw (ne_eqb (number_of r) 0 (refusal_not0 r)))

-- ---- write

pub write-none : (table image undo handed : List ℕ) (b k : ℕ) → (IsTable table → ⊥)
    → First (no_table_cases table (WrongSize 16384 image ⊎ (WrongSize 1024 undo ⊎ WrongSize 256 handed))) k
    → WriteCall table image undo handed b (write_none table image undo handed k)
write-none table image undo handed b k d f = record {
  is_table = λ i. absurd (d i);
  no_table = λ e. (
    subst (λ (n : ℕ). First (no_table_cases table (WrongSize 16384 image ⊎ (WrongSize n undo ⊎ WrongSize 256 handed))) k) (sym board_undo) f,
    refl,
  );
}

module _ {table image undo handed : List ℕ} {b : ℕ} {t : Table} (o : Writing) (i : IsTable table) (e : t ≡ table_in table)
    (h : Writes t image undo handed b o) where
  -- the writing, its answer written out
  abbrev written_with : Result ℕ Refusal → Writing
  written_with a = record { answer = a; table = o.table; image = o.image; undo = o.undo; block = o.block }

  write-end : (a : Result ℕ Refusal) → o.answer ≡ a → (s : WriteEnd) → s ≡ write_end table (written_with a) → WriteCall table image undo handed b s
  write-end a p s q = record {
    is_table = λ d. (
      o,
      subst (λ (x : Table). Writes x image undo handed b o) e h,
      subst (λ (y : Result ℕ Refusal). s ≡ write_end table (written_with y)) (sym p) q,
    );
    no_table = λ d. absurd (d i);
  }

  pub write_granted_here : {after : List ℕ} (s : ℕ) → o.answer ≡ Ok s → after ≡ bytes_of o.table
      → WriteCall table image undo handed b (record { refusal = 0; set = s; table = after; image = o.image; undo = o.undo; handed = o.block })
  write_granted_here s p q =
      write-end (Ok s) p _ (ap (λ (y : List ℕ). record { refusal = 0; set = s; table = y; image = o.image; undo = o.undo; handed = o.block }) q)

  pub write_refused_here : (r : Refusal) → o.answer ≡ Err r
      → WriteCall table image undo handed b (record { refusal = number_of r; set = 0; table = table; image = o.image; undo = o.undo; handed = o.block })
  write_refused_here r p = write-end (Err r) p _ (rw (ne_eqb (number_of r) 0 (refusal_not0 r)))

-- ---- the joint call

pub joint-none : (table image undo handed : List ℕ) (x y : ℕ) → (IsTable table → ⊥) → JointCall table image undo handed x y (joint_none table image undo handed)
joint-none table image undo handed x y d = record { is_table = λ i. absurd (d i); no_table = λ e. refl }
