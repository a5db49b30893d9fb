-- The words of a refusal, as they are printed: those of the board's setting, which has 16 rooms. Nothing but what is printed rests on them.
use Rattle.std.specs.Prelude.{ℕ, List, codes}
use Rattle.rules.specs.declared.refusals.Refusal.{Refusal}
use Rattle.rules.specs.declared.refusals.Refusal.TheVariants as refusal

abbrev pub refusal_text : Refusal → List ℕ
refusal_text refusal.BufferSize = codes "a lent buffer has not its exact size"
refusal_text refusal.NotSound = codes "the table is not sound"
refusal_text refusal.NoBlock = codes "block above 63"
refusal_text refusal.DataLength = codes "data length 0 or above 64"
refusal_text refusal.PastTheEnd = codes "offset + length above 256"
refusal_text refusal.ManyNames = codes "more than 8 named numbers"
refusal_text refusal.NeverIssued = codes "a named or asked number was never issued"
refusal_text refusal.NoNumber = codes "no number is left, and the change joins no patch"
refusal_text refusal.NoSlot = codes "no free slot, and the change joins no patch"
refusal_text refusal.NoRoom = codes "would be soft, and all 16 rooms are taken"
refusal_text refusal.InFlight = codes "a patch of the block is in flight"
refusal_text refusal.NoneWaits = codes "no patch of the block waits"
refusal_text refusal.NoneMayGo = codes "some wait, and none may go"
refusal_text refusal.NoneInFlight = codes "no patch of the block is in flight"
refusal_text refusal.FirstNumber = codes "first number 0 or above 1,000,000,000"
refusal_text refusal.NoRecord = codes "no record"
