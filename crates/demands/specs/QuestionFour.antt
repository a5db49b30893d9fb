-- Question four: show what the store holds if the supply is cut at an arbitrary moment. First of one history, then of the radio's whole life.
use Rattle.std.specs.Prelude.{ℕ, ◌≡◌, Bool, true}
use mathlib.Core.List.{List, ◌∷◌, Memᴰ}
use Rattle.rules.specs.declared.AskAnswer.TheVariants as ask
use Rattle.rules.specs.Calls.{Asks}
use Rattle.demands.specs.History.{History, Accepted, Happened}
use Rattle.demands.specs.Demand3.{store_after_cut, has_landed, carried_out, CutSafe, NotesTrue, Later, ForGood}
use Rattle.demands.specs.Life.{PowerUp, store_left, Lived, all_landed, every, Onward, AtRest}

pub record QuestionFour : Type 0 where
  -- after any history and any cut the store holds the landed changes, carried out singly in accepted order, and all that they asked to have before them
  pub at_any_cut : (h : History) → Happened h → (new : ℕ → Bool) → CutSafe h new
  -- and the notes by which that is judged are true
  pub by_true_notes : (h : History) → Happened h → NotesTrue h
  -- a change that ask has called committed is on the store after every later cut
  pub for_good : (h : History) → Happened h → (a : Accepted) → Memᴰ a h.accepted → Asks h.table a.number ask.Committed → ForGood h a

pub record QuestionFourForLife : Type 0 where
  -- after any number of power-ups, calls and cuts the store holds what it held before the first of them, with the landed changes of all carried out singly in
  -- the order accepted
  pub at_any_cut : (store : List ℕ) (life : List PowerUp) → Lived store life → store_left life store ≡ carried_out every (all_landed life) store
  -- so each finds in its image, at the opening, all that has landed before it
  pub at_opening : (store : List ℕ) (life : List PowerUp) (u : PowerUp) → Lived store (u ∷ life) → u.history.opening ≡ carried_out every (all_landed life) store
  -- within each power-up all that its landed changes asked to have before them is landed, and the notes are true
  pub each_safe : (store : List ℕ) (life : List PowerUp) → Lived store life → (u : PowerUp) → Memᴰ u life → CutSafe u.history u.new
  pub by_true_notes : (store : List ℕ) (life : List PowerUp) → Lived store life → (u : PowerUp) → Memᴰ u life → NotesTrue u.history
  -- a change that ask has called committed at some moment h of a power-up is among the landed ones ever after
  pub for_good : (life : List PowerUp) (u : PowerUp) → Memᴰ u life → (h : History) → Happened h → Later h u.history
      → (a : Accepted) → Memᴰ a h.accepted → Asks h.table a.number ask.Committed
      → Memᴰ a (all_landed life)
  -- names stay good where each power-up is opened at a number not below the next of the one before it: at every moment ask calls the number of every change
  -- of an earlier power-up v committed, and no change of the latest, u, has it
  pub names_stay : (store : List ℕ) (u : PowerUp) (life : List PowerUp) → Lived store (u ∷ life) → Onward (u ∷ life)
      → (v : PowerUp) → Memᴰ v life → (a : Accepted) → Memᴰ a v.history.accepted
      → Asks u.history.table a.number ask.Committed × ((x : Accepted) → Memᴰ x u.history.accepted → x.number ≡ a.number → ⊥)
  -- and mean what they say where a history ended at rest: every change of it has landed, whatever the cut, and the store holds the working image
  pub at_rest : (h : History) → Happened h → AtRest h → (new : ℕ → Bool)
      → ((a : Accepted) → Memᴰ a h.accepted → has_landed new h a ≡ true) × (store_after_cut new h ≡ h.image)
