-- Reading more of a link.
use Rattle.std.specs.Prelude.{◌≡◌, ℕ, Bool, true, false, List, [], Result, Ok, Err}
use Rattle.std.specs.Io.KnownBytes.{IsAtEnd}
use Rattle.kr_outside.specs.Faults.{Rose}
use Rattle.kr_dialer.specs.Carrying.{LinkState, Carried, IsStill}
use Rattle.bus_framing.specs.Links.{Linking, fed_with}
use Rattle.bus_naming.specs.declared.feeding.FeedRefused.{FeedRefused}
use Rattle.bus_naming.specs.declared.feeding.FeedRefused.TheVariants as refused

-- the most bytes that are read at a time
abbrev pub most_read : ℕ
most_read = 65536

-- a piece was read and fed; or the input has ended, or the link failed, or no memory was left
abbrev pub FeedsMore : Linking → Linking → LinkState → LinkState → Result Bool FeedRefused → Type 0
FeedsMore has left old new (Ok true) = (more : List ℕ) × Carried old new more [] × (left ≡ fed_with more has) × IsStill old new
FeedsMore has left old new (Ok false) = Carried old new [] [] × (left ≡ has) × IsAtEnd new.left × IsStill old new
FeedsMore has left old new (Err refused.Failed) = Carried old new [] [] × (left ≡ has) × Rose old.faults new.faults
FeedsMore has left old new (Err refused.OutOfMemory) = (more : List ℕ) × Carried old new more [] × IsStill old new
