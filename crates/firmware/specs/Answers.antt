-- Questions four and seven of a firmware that links the library, in the words of `demands`.
use Rattle.std.specs.Prelude.{ℕ, ◌+◌, ◌<◌, ◌≡◌, Bool, true, length, get_or}
use mathlib.Core.List.{List, ◌∷◌, Memᴰ}
use Rattle.rules.specs.Sizes.{image_bytes, room_start}
use Rattle.rules.specs.Create.{Change, place}
use Rattle.demands.specs.History.{Accepted}
use Rattle.demands.specs.Demand3.{store_after_cut, has_landed, carried_out, CutSafe, NotesTrue}
use Rattle.demands.specs.Life.{PowerUp, power_up, store_left, all_landed, every, Onward, AtRest}
use Rattle.demands.specs.QuestionSeven.{SameBut, Holds}
use Rattle.board.specs.Calls.{CreateEnd, CreateCall, WriteEnd, WriteCall, CompleteCall, JointEnd, JointCall, AskCall}
use Rattle.firmware.specs.Run.{Run, meant, HasRun, RunsOn, HasLived}

-- question four
pub record FirmwareQuestionFour : Type 0 where
  -- after any run and any cut the store holds the landed changes, carried out singly in accepted order, and all that they asked to have before them
  pub at_any_cut : (r : Run) → HasRun r → (new : ℕ → Bool) → CutSafe (meant r) new
  -- and the notes by which that is judged are true
  pub by_true_notes : (r : Run) → HasRun r → NotesTrue (meant r)
  -- a change whose number ask has answered with 3, committed, is on the store after every later cut
  pub for_good : (r : Run) → HasRun r → (a : Accepted) → Memᴰ a r.accepted → (refusal : ℕ) → AskCall r.bytes a.number refusal 3
      → (r' : Run) → RunsOn r r' → (new : ℕ → Bool) → Memᴰ a r'.accepted × (has_landed new (meant r') a ≡ true)

-- question four for the radio's whole life
pub record FirmwareQuestionFourForLife : Type 0 where
  -- after any number of power-ups, calls and cuts the store holds what it held before the first of them, with the landed changes of all carried out singly in
  -- the order accepted
  pub at_any_cut : (store : List ℕ) (life : List PowerUp) → HasLived store life → store_left life store ≡ carried_out every (all_landed life) store
  -- so each finds in its image, at the opening, all that has landed before it
  pub at_opening : (store : List ℕ) (life : List PowerUp) (u : PowerUp) → HasLived store (u ∷ life)
      → u.history.opening ≡ carried_out every (all_landed life) store
  -- within each power-up all that its landed changes asked to have before them is landed, and the notes are true
  pub each_safe : (store : List ℕ) (life : List PowerUp) → HasLived store life → (u : PowerUp) → Memᴰ u life → CutSafe u.history u.new
  pub by_true_notes : (store : List ℕ) (life : List PowerUp) → HasLived store life → (u : PowerUp) → Memᴰ u life → NotesTrue u.history
  -- a change whose number ask has answered with 3, committed, at some moment r of a power-up is among the landed ones ever after
  pub for_good : (life : List PowerUp) (r r' : Run) (new : ℕ → Bool) → HasRun r → RunsOn r r' → Memᴰ (power_up (meant r') new) life
      → (a : Accepted) → Memᴰ a r.accepted → (refusal : ℕ) → AskCall r.bytes a.number refusal 3
      → Memᴰ a (all_landed life)
  -- names stay good where each power-up is opened at a number not below the next of the one before it: at every moment ask answers the number of every change
  -- of an earlier power-up v with 3, and no change of the latest, r, has it
  pub names_stay : (store : List ℕ) (life : List PowerUp) → HasLived store life → (r : Run) (new : ℕ → Bool) → HasRun r → r.opening ≡ store_left life store
      → Onward (power_up (meant r) new ∷ life) → (v : PowerUp) → Memᴰ v life → (a : Accepted) → Memᴰ a v.history.accepted
      → ((refusal state : ℕ) → AskCall r.bytes a.number refusal state → (refusal ≡ 0) × (state ≡ 3))
      × ((x : Accepted) → Memᴰ x r.accepted → x.number ≡ a.number → ⊥)
  -- and mean what they say where a run ended at rest: every change of it has landed, whatever the cut, and the store holds the working image
  pub at_rest : (r : Run) → HasRun r → AtRest (meant r) → (new : ℕ → Bool)
      → ((a : Accepted) → Memᴰ a r.accepted → has_landed new (meant r) a ≡ true) × (store_after_cut new (meant r) ≡ r.image)

-- a create that answers 0 changes no byte of the image outside the range it names, and of the undo area none but the first bytes of the one room it takes
pub record CreateEndReaches (image undo : List ℕ) (c : Change) (e : CreateEnd) : Type 0 where
  pub in_image : SameBut (place c) (length c.bytes) image e.image
  pub hard : e.hold ≡ 1 → e.undo ≡ undo
  pub soft : (r : ℕ) → e.hold ≡ 2 + r → SameBut (room_start r) (length c.bytes) undo e.undo

-- question seven, whatever the bytes of the table are
pub record FirmwareQuestionSeven : Type 0 where
  pub creates : (table image undo : List ℕ) (c : Change) (e : CreateEnd) → CreateCall table image undo c e → e.refusal ≡ 0 → CreateEndReaches image undo c e
  -- write changes nothing lent but the table and the block handed out (complete, ask and count are lent no more than the table)
  pub writes : (table image undo handed : List ℕ) (b : ℕ) (e : WriteEnd) → WriteCall table image undo handed b e → (e.image ≡ image) × (e.undo ≡ undo)
  -- and a refusal nothing at all
  pub create-refused : (table image undo : List ℕ) (c : Change) (e : CreateEnd) → CreateCall table image undo c e → (e.refusal ≡ 0 → ⊥)
      → (e.table ≡ table) × (e.image ≡ image) × (e.undo ≡ undo)
  pub write-refused : (table image undo handed : List ℕ) (b : ℕ) (e : WriteEnd) → WriteCall table image undo handed b e → (e.refusal ≡ 0 → ⊥)
      → (e.table ≡ table) × (e.handed ≡ handed)
  pub complete-refused : (table : List ℕ) (b refusal : ℕ) (after : List ℕ) → CompleteCall table b refusal after → (refusal ≡ 0 → ⊥) → after ≡ table
  -- nor does the joint call change anything lent but the table and the block handed out: where completing is refused nothing at all, where the write is not
  -- granted not that block
  pub joint : (table image undo handed : List ℕ) (x y : ℕ) (e : JointEnd) → JointCall table image undo handed x y e → (e.image ≡ image) × (e.undo ≡ undo)
  pub joint-refused : (table image undo handed : List ℕ) (x y : ℕ) (e : JointEnd) → JointCall table image undo handed x y e → (e.first ≡ 0 → ⊥)
      → (e.table ≡ table) × (e.handed ≡ handed)
  pub joint_write_refused : (table image undo handed : List ℕ) (x y : ℕ) (e : JointEnd) → JointCall table image undo handed x y e → (e.second ≡ 0 → ⊥)
      → e.handed ≡ handed
  -- on the store, after any run and any cut: a place that no landed change names holds its opening byte, any other the byte of the last accepted
  -- landed change that names it
  pub store : (r : Run) → HasRun r → (new : ℕ → Bool) (p : ℕ) → p < image_bytes
      → Holds (has_landed new (meant r)) r.accepted r.opening p (get_or (store_after_cut new (meant r)) p 0)

-- question seven for the radio's whole life
pub record FirmwareQuestionSevenForLife : Type 0 where
  -- after any number of power-ups, calls and cuts: a place that no landed change of any of them names holds the byte it held before the first, any other the
  -- byte of the last accepted landed change that names it
  pub store : (store : List ℕ) (life : List PowerUp) → HasLived store life → (p : ℕ) → p < image_bytes
      → Holds every (all_landed life) store p (get_or (store_left life store) p 0)
