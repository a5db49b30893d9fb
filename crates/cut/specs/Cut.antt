-- Between crates, need not be believed by who reads `demands`: what a power cut leaves, and what is promised of it.
-- The third file that a reader of the theorem has to believe: `SafeAt` is the promise.
use Rattle.std.specs.Prelude.{ℕ, ◌≡◌, Bool, true, false, cond}
use Rattle.cut.specs.Changes.{Store, Logged, after, only}
use Rattle.cut.specs.World.{World, Stage, waiting, in_flight, committed, AskedThrough}

-- The store after a cut. `new b` says whether block b's write in flight is there, whole; else the old block is. Where
-- no write is in flight old and new are the same. Any choice of blocks is a cut that can happen.
unfoldable pub after_cut : (ℕ → Bool) → World → Store
after_cut new w b i = cond (new b) (w.sent b i) (w.store b i)

-- Is a change of this state on the store, when its block's write in flight is there (true) or is not (false)?
unfoldable pub reached : Bool → Stage → Bool
reached new waiting = false
reached new in_flight = new
reached new committed = true

-- Is the change on the store after the cut?
unfoldable pub landed : (ℕ → Bool) → World → Logged → Bool
landed new w c = reached (new c.block) (w.state c)

-- The cut did no harm.
pub record SafeAt (opening : Store) (w : World) (new : ℕ → Bool) : Type 0 where
  -- The store is, byte for byte, the opening with the landed changes carried out singly in the order accepted.
  pub holds : (b i : ℕ) → after_cut new w b i ≡ after (only (landed new w) w.log) opening b i
  -- What a landed change asked to have before it, straight or through others, is landed.
  pub closed : (y x : Logged) → landed new w y ≡ true → AskedThrough w y x → landed new w x ≡ true
