-- Question seven: no change can reach bytes outside the place it names.
use Rattle.std.specs.Prelude.{ℕ, ◌+◌, ◌-◌, ◌≤◌, ◌<◌, ◌≡◌, Bool, true, false, ◌&&◌, ◌⊎◌, leb, ltb, length, get_or, Some}
use mathlib.Core.List.{List, ◌∷◌, ◌++◌, Memᴰ}
use Rattle.std.proofs.Math.Option.{some}
use Rattle.rules.specs.declared.Hold.TheVariants as hold
use Rattle.rules.specs.Sizes.{image_bytes, room_start}
use Rattle.rules.specs.Table.{Table}
use Rattle.rules.specs.Create.{Change, place}
use Rattle.rules.specs.Calls.{Creation, Creates, answer_number, hard_or_soft, Writing, Writes, Completion, Completes}
use Rattle.rules.specs.Joint.{Joint, CompletesWrites, second_number}
use Rattle.demands.specs.History.{History, Accepted, Happened}
use Rattle.demands.specs.Demand3.{store_after_cut, has_landed}
use Rattle.demands.specs.Life.{PowerUp, store_left, Lived, all_landed, every}

-- the two lists are equal but for the n bytes from place `at`
pub record SameBut (at n : ℕ) (old new : List ℕ) : Type 0 where
  pub same_length : length new ≡ length old
  pub outside : (p : ℕ) → (p < at) ⊎ (at + n ≤ p) → get_or new p 0 ≡ get_or old p 0

-- a granted create changes no byte of the image outside the range it names, and of the undo area none but the first bytes of the one room it takes
pub record CreateReaches (image undo : List ℕ) (c : Change) (o : Creation) : Type 0 where
  pub in_image : SameBut (place c) (length c.bytes) image o.image
  pub hard : hard_or_soft o.answer ≡ some hold.Hard → o.undo ≡ undo
  pub soft : (r : ℕ) → hard_or_soft o.answer ≡ some (hold.Soft r) → SameBut (room_start r) (length c.bytes) undo o.undo

-- place p of the image is among those that the accepted change names
abbrev pub names : Accepted → ℕ → Bool
names a p = leb (place a.change) p && ltb p (place a.change + length a.change.bytes)

-- why place p holds this byte, when of a list of changes, newest first, those that pass the test are carried out on an opening
pub data Holds (test : Accepted → Bool) (l : List Accepted) (opening : List ℕ) (p byte : ℕ) : Type 0 where
  -- none of them names it, and it holds its opening byte
  untouched : ((a : Accepted) → Memᴰ a l → test a ≡ true → names a p ≡ false) → byte ≡ get_or opening p 0 → Holds test l opening p byte
  -- or it holds the byte of the one accepted last of those that name it
  written : (a : Accepted) (newer older : List Accepted) → l ≡ newer ++ (a ∷ older) → test a ≡ true → names a p ≡ true
      → ((x : Accepted) → Memᴰ x newer → test x ≡ true → names x p ≡ false)
      → byte ≡ get_or a.change.bytes (p - place a.change) 0 → Holds test l opening p byte

pub record QuestionSeven : Type 0 where
  -- what a granted create changes of what it is lent
  pub creates : (t : Table) (image undo : List ℕ) (c : Change) (o : Creation) → Creates t image undo c o → answer_number o.answer ≡ 0
      → CreateReaches image undo c o
  -- write changes nothing lent but the block handed out (complete, ask and count are lent nothing)
  pub writes : (t : Table) (image undo block : List ℕ) (b : ℕ) (o : Writing) → Writes t image undo block b o → (o.image ≡ image) × (o.undo ≡ undo)
  -- and a refusal nothing at all
  pub create-refused : (t : Table) (image undo : List ℕ) (c : Change) (o : Creation) → Creates t image undo c o → (answer_number o.answer ≡ 0 → ⊥)
      → (o.table ≡ t) × (o.image ≡ image) × (o.undo ≡ undo)
  pub write-refused : (t : Table) (image undo block : List ℕ) (b : ℕ) (o : Writing) → Writes t image undo block b o → (answer_number o.answer ≡ 0 → ⊥)
      → (o.table ≡ t) × (o.block ≡ block)
  pub complete-refused : (t : Table) (b : ℕ) (o : Completion) → Completes t b o → (answer_number o.answer ≡ 0 → ⊥) → o.table ≡ t
  -- nor does the joint call change anything lent but the block handed out: where completing is refused nothing at all, where only the write is, not that block
  pub joint : (t : Table) (image undo block : List ℕ) (x y : ℕ) (o : Joint) → CompletesWrites t image undo block x y o → (o.image ≡ image) × (o.undo ≡ undo)
  pub joint-refused : (t : Table) (image undo block : List ℕ) (x y : ℕ) (o : Joint) → CompletesWrites t image undo block x y o
      → (answer_number o.first ≡ 0 → ⊥) → (o.table ≡ t) × (o.block ≡ block)
  pub joint_write_refused : (t : Table) (image undo block : List ℕ) (x y : ℕ) (o : Joint) → CompletesWrites t image undo block x y o
      → (k : ℕ) → second_number o.second ≡ Some k → (k ≡ 0 → ⊥) → o.block ≡ block
  -- on the store, after any history and any cut: a place that no landed change names holds its opening byte, any other the byte of the last accepted
  -- landed change that names it
  pub store : (h : History) → Happened h → (new : ℕ → Bool) (p : ℕ) → p < image_bytes
      → Holds (has_landed new h) h.accepted h.opening p (get_or (store_after_cut new h) p 0)

pub record QuestionSevenForLife : Type 0 where
  -- after any number of power-ups, calls and cuts: a place that no landed change of any of them names holds the byte it held before the first, any other the
  -- byte of the last accepted landed change that names it
  pub store : (store : List ℕ) (life : List PowerUp) → Lived store life → (p : ℕ) → p < image_bytes
      → Holds every (all_landed life) store p (get_or (store_left life store) p 0)
