-- Between crates, need not be believed by who reads `demands`: the radio as a power cut sees it, and what each call may do to it. There is no table in it.
-- The second file that a reader of the theorem has to believe. The step records are the only interface to a cache: a cache whose
-- every call is one of these steps, or several, has the theorem of proofs/Core.antt. Steps speak of the changes of
-- the log alone, and compare stores place by place, so that a world computed from lists can show them.
use Rattle.std.specs.Prelude.{ℕ, ◌≡◌, Bool, true, false, cond, ◌&&◌, not, ◌≢◌, ◌⊎◌, eqb}
use mathlib.Core.List.{List, [], ◌∷◌, Memᴰ}
use Rattle.cut.specs.Changes.{Store, Logged, covers, carry_out, Earlier, Share}

-- Where a change is: not yet sent, sent and not yet answered for, or on the store for good.
pub data Stage : Type 0 where
  waiting in_flight committed : Stage

pub record World : Type 1 where
  -- what the store surely holds
  pub store : Store
  -- for each block the bytes last passed to the store: what it will hold once they are there
  pub sent : Store
  -- the working image
  pub working : Store
  -- the accepted changes, newest first
  pub log : List Logged
  -- y asked to have x before it: whatever the cache above takes for asking
  pub asked : Logged → Logged → Type 0
  -- where each change of the log is
  pub state : Logged → Stage
  -- are old bytes kept for the change?
  pub kept : Logged → Bool
  -- and those bytes, by place in its block
  pub undo : Logged → ℕ → ℕ
  -- as long as y has not committed it goes only together with x, or after x has committed
  pub tied : Logged → Logged → Type 0

-- y asked to have x before it, and x was accepted before y.
pub record AskedEarlier (w : World) (y x : Logged) : Type 0 where
  -- x is the earlier one
  pub earlier : Earlier w.log y x
  -- and y asked for it
  pub asks : w.asked y x

-- y asked to have x before it, straight or through others.
pub data AskedThrough (w : World) : Logged → Logged → Type 0 where
  straight : {y x : Logged} → AskedEarlier w y x → AskedThrough w y x
  through : {y z x : Logged} → AskedEarlier w y z → AskedThrough w z x → AskedThrough w y x

-- y must not reach the store before x: it asked so, or they share a byte.
abbrev pub Must : World → Logged → Logged → Type 0
Must w y x = w.asked y x ⊎ Share y x

-- What old changes keep in every step

-- Old bytes that are kept still are those that were kept before. They may be given up, never changed or invented.
abbrev pub KeepsUndo : World → World → Type 0
KeepsUndo w w' = (x : Logged) → Memᴰ x w.log → w'.kept x ≡ true
    → (w.kept x ≡ true) × ((i : ℕ) → w'.undo x i ≡ w.undo x i)

-- A tie that matters is loosened only by a commit: of y, or of the x that y is tied to.
abbrev pub KeepsTies : World → World → Type 0
KeepsTies w w' = (y x : Logged) → Earlier w.log y x → Must w y x → w'.state y ≢ committed → w.tied y x
    → (w'.state x ≡ committed) ⊎ w'.tied y x

-- No call adds an ask between changes that are in the log already.
abbrev pub AddsNoAsk : World → World → Type 0
AddsNoAsk w w' = (y x : Logged) → Earlier w.log y x → w'.asked y x → w.asked y x

-- Logged c is accepted.
pub record AcceptStep (c : Logged) (w w' : World) : Type 1 where
  -- The store holds what it held: a cache that writes through breaks it.
  pub store : (b i : ℕ) → w'.store b i ≡ w.store b i
  -- Nothing is passed to the store, and no block in flight is touched.
  pub sent : (b i : ℕ) → w'.sent b i ≡ w.sent b i
  -- The change is the log's newest, and no other change leaves or enters.
  pub log : w'.log ≡ c ∷ w.log
  -- The working image takes the change's bytes and keeps every other byte.
  pub working : (b i : ℕ) → w'.working b i ≡ carry_out c w.working b i
  -- The change waits. So it can join changes of its number that wait, and none that is in flight or has committed.
  pub new_state : w'.state c ≡ waiting
  -- Where the others are does not move.
  pub old_state : (x : Logged) → Memᴰ x w.log → w'.state x ≡ w.state x
  -- Old bytes kept for the change are those from before it: a cache that reads them after the data went in breaks it.
  pub new_undo : w'.kept c ≡ true → (b i : ℕ) → covers c b i ≡ true → w'.undo c i ≡ w.working b i
  -- Other changes may lose their old bytes (soft ones that turn hard), and get none.
  pub old_undo : KeepsUndo w w'
  -- The change is tied to all that it must follow, but for what has committed: a cache that drops a before because it
  -- is in flight, or overlooks that two changes overlap, breaks it.
  pub new_ties : (x : Logged) → Memᴰ x w.log → Must w' c x → (w.state x ≡ committed) ⊎ w'.tied c x
  -- The ties between older changes hold: a cache that reuses a slot and forgets who waited for it breaks it.
  pub old_ties : KeepsTies w w'
  -- An ask that is new is this change's own. (An equal change may be in the log already, and have asked for less.)
  pub asks : (y x : Logged) → Earlier w.log y x → w'.asked y x → w.asked y x ⊎ (y ≡ c)

-- Is the state the waiting one?
unfoldable pub is_waiting : Stage → Bool
is_waiting waiting = true
is_waiting in_flight = false
is_waiting committed = false

-- Is the change left behind when the set `go` of block b goes? It waits on that block and is not in the set.
unfoldable pub left : ℕ → (Logged → Bool) → World → Logged → Bool
left b go w x = eqb x.block b && (is_waiting (w.state x) && not (go x))

-- The old bytes of one change put back.
unfoldable pub put_back : (Logged → ℕ → ℕ) → Logged → Store → Store
put_back undo c s b i = cond (covers c b i) (undo c i) (s b i)

-- The changes of a log that are left behind taken back, newest first.
unfoldable pub take_back : (Logged → Bool) → (Logged → ℕ → ℕ) → List Logged → Store → Store
take_back out undo [] s = s
take_back out undo (c ∷ older) s = take_back out undo older (cond (out c) (put_back undo c s) s)

-- The set `go` of block b is handed out to be written.
pub record SendStep (b : ℕ) (go : Logged → Bool) (w w' : World) : Type 1 where
  -- The store holds what it held: the write is only on its way.
  pub store : (d i : ℕ) → w'.store d i ≡ w.store d i
  -- The working image stays: taking back happens in the block handed out alone.
  pub working : (d i : ℕ) → w'.working d i ≡ w.working d i
  -- No change enters or leaves the log.
  pub log : w'.log ≡ w.log
  -- What goes was waiting, on this very block.
  pub goes : (x : Logged) → Memᴰ x w.log → go x ≡ true → (w.state x ≡ waiting) × (x.block ≡ b)
  -- What a member is tied to has committed or goes along: a cache that takes in flight for committed breaks it.
  pub go_tied : (y x : Logged) → Memᴰ y w.log → Memᴰ x w.log
      → go y ≡ true → w.tied y x → (w.state x ≡ committed) ⊎ (go x ≡ true)
  -- What is left behind has its old bytes: a cache that leaves a hard change behind breaks it.
  pub left_kept : (x : Logged) → Memᴰ x w.log → left b go w x ≡ true → w.kept x ≡ true
  -- No write of this block is in flight. No proof needs it; without it a cut would have a third outcome, the older of
  -- two writes there and not the newer, and the two outcomes of specs/Cut.antt would not be all.
  pub free : (x : Logged) → Memᴰ x w.log → x.block ≡ b → w.state x ≢ in_flight
  -- The block handed out is the working one with what is left behind taken back, newest first: a cache that takes back
  -- oldest first, or stops after one, breaks it.
  pub bytes : (i : ℕ) → w'.sent b i ≡ take_back (left b go w) w.undo w.log w.working b i
  -- What was passed to the store of other blocks stays.
  pub others : (d i : ℕ) → d ≢ b → w'.sent d i ≡ w.sent d i
  -- The set is in flight from now on.
  pub go_state : (x : Logged) → Memᴰ x w.log → go x ≡ true → w'.state x ≡ in_flight
  -- Every other change is where it was.
  pub stay_state : (x : Logged) → Memᴰ x w.log → go x ≡ false → w'.state x ≡ w.state x
  -- Old bytes of the set may be given up now, or later.
  pub old_undo : KeepsUndo w w'
  -- The ties stand until the commit, for those in flight too: a write that fails needs them again.
  pub old_ties : KeepsTies w w'
  -- It adds no ask.
  pub asks : AddsNoAsk w w'

-- A change's state once its block has landed: what was in flight has committed.
unfoldable pub settled : Stage → Stage
settled waiting = waiting
settled in_flight = committed
settled committed = committed

-- The write of block b is there.
pub record LandStep (b : ℕ) (w w' : World) : Type 1 where
  -- The store's block is the one that was sent, all of it.
  pub bytes : (i : ℕ) → w'.store b i ≡ w.sent b i
  -- Other blocks of the store stay, also those with a write in flight.
  pub others : (d i : ℕ) → d ≢ b → w'.store d i ≡ w.store d i
  -- What was last sent stays, for every block.
  pub sent : (d i : ℕ) → w'.sent d i ≡ w.sent d i
  -- The working image stays.
  pub working : (d i : ℕ) → w'.working d i ≡ w.working d i
  -- No change enters or leaves the log: a cache may forget what has committed, the log does not.
  pub log : w'.log ≡ w.log
  -- The block's changes in flight commit, and no waiting one with them.
  pub its_state : (x : Logged) → Memᴰ x w.log → x.block ≡ b → w'.state x ≡ settled (w.state x)
  -- Changes of other blocks are where they were: a cache that completes the wrong block breaks it.
  pub other_state : (x : Logged) → Memᴰ x w.log → x.block ≢ b → w'.state x ≡ w.state x
  -- Old bytes may be given up.
  pub old_undo : KeepsUndo w w'
  -- Only ties to what has committed go: a cache that clears a whole set of befores breaks it.
  pub old_ties : KeepsTies w w'
  -- It adds no ask.
  pub asks : AddsNoAsk w w'

-- A change's state once its block's write has failed: what was in flight waits again.
unfoldable pub fallen : Stage → Stage
fallen waiting = waiting
fallen in_flight = waiting
fallen committed = committed

-- The write of block b failed, and the old block stands. No call of the base is this step: it is there for a store
-- that can say no.
pub record FailStep (b : ℕ) (w w' : World) : Type 1 where
  -- Nothing is on its way to the block any more: what it will hold is what it holds.
  pub bytes : (i : ℕ) → w'.sent b i ≡ w.store b i
  -- Writes of other blocks stay on their way.
  pub others : (d i : ℕ) → d ≢ b → w'.sent d i ≡ w.sent d i
  -- The store holds what it held.
  pub store : (d i : ℕ) → w'.store d i ≡ w.store d i
  -- The working image stays.
  pub working : (d i : ℕ) → w'.working d i ≡ w.working d i
  -- No change enters or leaves the log.
  pub log : w'.log ≡ w.log
  -- The block's changes in flight wait again: a cache that lets them commit breaks it.
  pub its_state : (x : Logged) → Memᴰ x w.log → x.block ≡ b → w'.state x ≡ fallen (w.state x)
  -- Changes of other blocks are where they were.
  pub other_state : (x : Logged) → Memᴰ x w.log → x.block ≢ b → w'.state x ≡ w.state x
  -- Old bytes may be given up, and none come back: what was given up when the write was sent stays lost.
  pub old_undo : KeepsUndo w w'
  -- The ties stand: a cache that forgot the befores of what it sent breaks it.
  pub old_ties : KeepsTies w w'
  -- It adds no ask.
  pub asks : AddsNoAsk w w'

-- Nothing that a cut could show moves: a question, a refusal, or a call that only gives up old bytes or adds ties.
pub record RestStep (w w' : World) : Type 1 where
  -- The store holds what it held.
  pub store : (b i : ℕ) → w'.store b i ≡ w.store b i
  -- Nothing is passed to it.
  pub sent : (b i : ℕ) → w'.sent b i ≡ w.sent b i
  -- The working image stays.
  pub working : (b i : ℕ) → w'.working b i ≡ w.working b i
  -- No change enters or leaves the log: a refused change is not in it.
  pub log : w'.log ≡ w.log
  -- Every change is where it was.
  pub state : (x : Logged) → Memᴰ x w.log → w'.state x ≡ w.state x
  -- Old bytes may be given up.
  pub old_undo : KeepsUndo w w'
  -- The ties stand.
  pub old_ties : KeepsTies w w'
  -- It adds no ask.
  pub asks : AddsNoAsk w w'

-- One step of a cache.
pub data Step (w w' : World) : Type 1 where
  accepts : (c : Logged) → AcceptStep c w w' → Step w w'
  sends : (b : ℕ) (go : Logged → Bool) → SendStep b go w w' → Step w w'
  lands : (b : ℕ) → LandStep b w w' → Step w w'
  fails : (b : ℕ) → FailStep b w w' → Step w w'
  rests : RestStep w w' → Step w w'

-- The cache has just been opened over a store that holds `opening`.
pub record Begun (opening : Store) (w : World) : Type 1 where
  -- The store holds the opening.
  pub store : (b i : ℕ) → w.store b i ≡ opening b i
  -- Nothing is on its way.
  pub sent : (b i : ℕ) → w.sent b i ≡ opening b i
  -- The caller filled the working image from the store.
  pub working : (b i : ℕ) → w.working b i ≡ opening b i
  -- No change was accepted yet.
  pub log : w.log ≡ []

-- Any steps, one after the other.
pub data Run : World → World → Type 1 where
  none : {w : World} → Run w w
  more : {w w' w'' : World} → Step w w' → Run w' w'' → Run w w''
