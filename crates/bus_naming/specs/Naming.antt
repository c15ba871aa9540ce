-- How a link comes to own the name of the service (D-Bus Specification, "Message Bus Messages": Hello, AddMatch, RequestName).
use Rattle.std.specs.Prelude.{◌≡◌, ℕ, ◌++◌, false, List, [], ◌∷◌, Result, Ok, Err, IsTrue}
use Rattle.std.specs.Io.KnownBytes.{IsAtEnd}
use Rattle.kr_outside.specs.Faults.{Rose}
use Rattle.dbus_framing.specs.declared.violation.FrameRefused.{FrameRefused}
use Rattle.dbus_framing.specs.declared.violation.FrameRefused.TheVariants as frame
use Rattle.dbus_framing.specs.declared.violation.Violation.{Violation}
use Rattle.kr_dialer.specs.Carrying.{LinkState, Carried, IsFront, IsStill}
use Rattle.bus_framing.specs.Looks.{Said, waits, breaks, look_at}
use Rattle.bus_framing.specs.Links.{Linking, AreHeard, HearsNext, Passes}
use Rattle.bus_sending.specs.declared.calls.BusCall.TheVariants as call
use Rattle.bus_sending.specs.BusCalls.{spelled_call}
use Rattle.bus_sending.specs.Texts.{Written}
use Rattle.bus_start.specs.declared.answer.StartRefused.{StartRefused}
use Rattle.bus_start.specs.declared.answer.StartRefused.TheVariants as start
use Rattle.bus_start.specs.Starts.{Rows, hear, has_started, opening}
use Rattle.bus_views.specs.declared.view.View.{View}
use Rattle.bus_views.specs.Views.{IsView}
use Rattle.bus_naming.specs.declared.feeding.FeedRefused.{FeedRefused}
use Rattle.bus_naming.specs.declared.feeding.FeedRefused.TheVariants as feed
use Rattle.bus_naming.specs.declared.listening.Listened.{Listened}
use Rattle.bus_naming.specs.declared.naming.Named.{Named}
use Rattle.bus_naming.specs.declared.refused.NamingRefused.{NamingRefused}
use Rattle.bus_naming.specs.declared.refused.NamingRefused.TheVariants as end

-- the refusal of a link that doesn't start
abbrev pub end_of : StartRefused → NamingRefused
end_of (start.Refused question) = end.Refused question
end_of start.NameTaken = end.NameTaken
end_of start.Early = end.Early
end_of start.OutOfMemory = end.OutOfMemory

-- the refusal of a link whose bytes can't be read as messages
abbrev pub end_for : FrameRefused → NamingRefused
end_for (frame.Violation cause) = end.Violation cause
end_for frame.OutOfMemory = end.OutOfMemory

-- the refusal of a link of which no more was fed
abbrev pub fault_of : FeedRefused → NamingRefused
fault_of feed.Failed = end.ReadFault
fault_of feed.OutOfMemory = end.OutOfMemory

-- ---- what is written

-- the first three calls, with the serials 1, 2 and 3
abbrev pub first_calls : List ℕ
first_calls = (spelled_call call.Hello 1 ++ spelled_call call.WatchOwners 2) ++ spelled_call call.OwnName 3

-- they are to be written
abbrev pub asked : Written
asked = record { bytes = first_calls; taken = 3 }

-- they were written
abbrev pub begun : Written
begun = record { bytes = []; taken = 3 }

-- the three calls were written; or the link failed after a prefix of them, or no memory was left
abbrev pub Asks : LinkState → LinkState → Result Written NamingRefused → Type 0
Asks old new (Ok text) = Carried old new [] first_calls × IsStill old new × (text ≡ begun)
Asks old new (Err end.WriteFault) = (front : List ℕ) × IsFront front first_calls × Carried old new [] front × Rose old.faults new.faults
Asks old new (Err end.OutOfMemory) = Carried old new [] [] × IsStill old new
Asks old new (Err _) = ⊥

-- ---- what is heard

-- the bytes of a link of which none was consumed
abbrev pub link_at : List ℕ → Linking
link_at bytes = record { left = bytes; debt = 0 }

-- what is looked at in the message, and what becomes of it
pub record Hears (said : Said) (rows : Rows View) (result : Result (Rows View) StartRefused) : Type 0 where
  pub view : View
  pub is : IsView said view
  pub heard : hear view.answer view view.size rows ≡ result

-- the messages, none of which came after the last answer, lead to these rows
pub data HeardAs : List Said → Rows View → Type 0 where
  none : HeardAs [] opening
  next : (saids : List Said) (said : Said) (mid to : Rows View) → HeardAs saids mid → has_started mid ≡ false → Hears said mid (Ok to) → HeardAs (saids ++ said ∷ []) to

-- so far: these messages are heard in the bytes, perhaps with some after them that aren't heard, and lead to these rows
pub record HasHeard (bytes : List ℕ) (framing : Linking) (rows : Rows View) : Type 0 where
  pub saids : List Said
  pub last : Linking
  pub heard : AreHeard (link_at bytes) saids last
  pub passed : Passes last framing
  pub as_rows : HeardAs saids rows

-- a call is still open, and more bytes are awaited
pub record IsOpen (bytes : List ℕ) : Type 0 where
  pub framing : Linking
  pub rows : Rows View
  pub heard : HasHeard bytes framing rows
  pub not_started : has_started rows ≡ false
  pub awaits : look_at framing.left ≡ waits

-- before the link has started, the next message is an answer that refuses, or is too much to be kept
pub record IsRefusedBy (bytes : List ℕ) (why : StartRefused) : Type 0 where
  pub from : Linking
  pub rows : Rows View
  pub heard : HasHeard bytes from rows
  pub not_started : has_started rows ≡ false
  pub said : Said
  pub to : Linking
  pub follows : HearsNext from said to
  pub refuses : Hears said rows (Err why)

-- before the link has started, the bytes break a rule
pub record IsBroken (bytes : List ℕ) (cause : Violation) : Type 0 where
  pub from : Linking
  pub rows : Rows View
  pub heard : HasHeard bytes from rows
  pub not_started : has_started rows ≡ false
  pub to : Linking
  pub passed : Passes from to
  pub breaks_there : look_at to.left ≡ breaks cause

-- one message is heard; or it refuses, or no memory was left
abbrev pub HearsOne : Said → Rows View → Rows View → Result Unit NamingRefused → Type 0
HearsOne said old new (Ok done) = Hears said old (Ok new)
HearsOne said old new (Err (end.Refused question)) = Hears said old (Err (start.Refused question))
HearsOne said old new (Err end.NameTaken) = Hears said old (Err start.NameTaken)
HearsOne said old new (Err end.Early) = Hears said old (Err start.Early)
HearsOne said old new (Err end.OutOfMemory) = Unit {0}
HearsOne said old new (Err _) = ⊥

-- why hearing ends, by what the bytes show
abbrev pub EndsFor : List ℕ → NamingRefused → Type 0
EndsFor bytes (end.Refused question) = IsRefusedBy bytes (start.Refused question)
EndsFor bytes end.NameTaken = IsRefusedBy bytes start.NameTaken
EndsFor bytes end.Early = IsRefusedBy bytes start.Early
EndsFor bytes (end.Violation cause) = IsBroken bytes cause
EndsFor bytes end.OutOfMemory = Unit {0}
EndsFor bytes _ = ⊥

-- the complete messages were heard: the link has started, or more bytes are awaited; or hearing has ended
abbrev pub HearsAll : List ℕ → Linking → Rows View → Result Unit NamingRefused → Type 0
HearsAll bytes framing rows (Ok done) = HasHeard bytes framing rows × (has_started rows ≡ false → look_at framing.left ≡ waits)
HearsAll bytes framing rows (Err why) = EndsFor bytes why

-- the link has started, after these bytes were read; or it hasn't
abbrev pub ListensFor : List ℕ → LinkState → LinkState → Result Listened NamingRefused → Type 0
ListensFor bytes old new (Ok it) = ((rows : Rows View) × HasHeard bytes it.framer rows × IsTrue (has_started rows) × (it.kept.items ≡ rows.kept)) × IsStill old new
ListensFor bytes old new (Err end.EndedEarly) = IsOpen bytes × IsAtEnd new.left × IsStill old new
ListensFor bytes old new (Err end.ReadFault) = IsOpen bytes × Rose old.faults new.faults
ListensFor bytes old new (Err why) = EndsFor bytes why × IsStill old new

-- what was read after these bytes, and how it ended
pub record Listens (rest : List ℕ) (old new : LinkState) (result : Result Listened NamingRefused) : Type 0 where
  pub read : List ℕ
  pub carried : Carried old new read []
  pub ends : ListensFor (rest ++ read) old new result

-- so far
pub record ListensSoFar (rest : List ℕ) (old now : LinkState) (framing : Linking) (rows : Rows View) : Type 0 where
  pub read : List ℕ
  pub carried : Carried old now read []
  pub still : IsStill old now
  pub heard : HasHeard (rest ++ read) framing rows

-- ---- the whole

-- The link owns the name: the messages that were heard answer the three calls, and the others are kept. Or it doesn't, for one of the causes.
abbrev pub NamingEnds : (bytes wrote : List ℕ) → LinkState → LinkState → Result Named NamingRefused → Type 0
NamingEnds bytes wrote old new (Ok named) =
    (wrote ≡ first_calls) × IsStill old new × (named.text ≡ begun)
    × ((rows : Rows View) × HasHeard bytes named.framer rows × IsTrue (has_started rows) × (named.kept.items ≡ rows.kept))
NamingEnds bytes wrote old new (Err end.WriteFault) = IsFront wrote first_calls × Rose old.faults new.faults
NamingEnds bytes wrote old new (Err end.OutOfMemory) = IsFront wrote first_calls × IsStill old new
NamingEnds bytes wrote old new (Err end.EndedEarly) = (wrote ≡ first_calls) × IsOpen bytes × IsAtEnd new.left × IsStill old new
NamingEnds bytes wrote old new (Err end.ReadFault) = (wrote ≡ first_calls) × IsOpen bytes × Rose old.faults new.faults
NamingEnds bytes wrote old new (Err why) = (wrote ≡ first_calls) × EndsFor bytes why × IsStill old new

-- what was read and written after these bytes, which were read before, and how it ended
pub record Names (rest : List ℕ) (old new : LinkState) (result : Result Named NamingRefused) : Type 0 where
  pub read : List ℕ
  pub wrote : List ℕ
  pub carried : Carried old new read wrote
  pub ends : NamingEnds (rest ++ read) wrote old new result
