-- The job of one link: what it is made of, and what it results in.
use Rattle.std.specs.Prelude.{◌≡◌, ℕ, Bool, true, List, Option, Result, Ok, Err}
use Rattle.kr_base.specs.declared.ids.ConnId.{ConnId}
use Rattle.dbus_auth.specs.Exchange.{Exchange}
use Rattle.dbus_framing.specs.Framers.{Framing}
use Rattle.connection_worker.specs.service_desk.specs.Calls.{Goes}
use Rattle.connection_worker.specs.service_desk.specs.Places.{Told, place}
use Rattle.connection_worker.specs.service_desk.specs.Views.{View}
use Rattle.connection_worker.specs.declared.ending.End.{End}
use Rattle.connection_worker.specs.Handshakes.{Both, HandshakeOutcome}
use Rattle.connection_worker.specs.Reader.{ReaderEnds}
use Rattle.connection_worker.specs.Salts.{Salting}
use Rattle.connection_worker.specs.Serving.{world}
use Rattle.connection_worker.specs.Streams.{Input, Output, input_of, output_of}
use Rattle.connection_worker.specs.Writing.{WriterEnds}
use Rattle.daemon.specs.declared.job.Served.{Served}

-- what contracts see of a job: all that is needed to serve a link
pub record Job (A B C I O : Type 0) : Type 0 where
  -- the connection
  pub conn : ConnId
  -- the handshake that is to come
  pub auth : Exchange
  -- the salts of the connection's requests
  pub salting : Salting
  -- the clock
  pub clock : C
  -- the desks of the reader and of the writer
  pub reader : A
  pub writer : B
  -- both ends of the link
  pub input : I
  pub output : O

-- A reader did its work after the handshake; its clock and its salts continued, and aren't handed back.
pub record Reads {A C I : Type 0} (told : A → Told) (has_seen : A → View → Type 0) (coming : C → Option (ℕ → ℕ)) (left : I → Option (List ℕ)) (faults : I → ℕ) (is_steady is_closed : I → Bool) (has : Framing) (salting : Salting) (clock : C) (old : A) (from : I) (new : A) (to : I) (how : End) : Type 0 where
  pub clock_after : C
  pub salting_after : Salting
  pub reader : ReaderEnds has (input_of left faults is_steady is_closed from) (input_of left faults is_steady is_closed to)
      (world told has_seen coming old clock salting) (world told has_seen coming new clock_after salting_after) how

-- a source after it was closed
abbrev pub closed_input : Input → Input
closed_input input = record input { is_closed = true }

-- a sink after it was closed
abbrev pub closed_output : Output → Output
closed_output output = record output { is_closed = true }

-- A writer did its work after the handshake, and closed its output when it ended.
pub record Writes {B O : Type 0} (told : B → Told) (has_seen : B → View → Type 0) (written : O → Option (List ℕ)) (faults : O → ℕ) (is_steady is_closed : O → Bool) (old : B) (from : O) (new : B) (to : O) (how : End) : Type 0 where
  pub ended : Output
  pub writer : WriterEnds (output_of written faults is_steady is_closed from) ended (place told has_seen old) (place told has_seen new) how
  pub output : output_of written faults is_steady is_closed to ≡ closed_output ended

-- Both ends of a link were closed, and nothing else was done.
pub record IsClosing {A B I O : Type 0} (left : I → Option (List ℕ)) (in_faults : I → ℕ) (in_steady in_closed : I → Bool) (written : O → Option (List ℕ)) (out_faults : O → ℕ) (out_steady out_closed : O → Bool) (old new : Served A B I O) : Type 0 where
  pub conn : new.conn ≡ old.conn
  pub reader : new.reader ≡ old.reader
  pub writer : new.writer ≡ old.writer
  pub read_end : new.read_end ≡ old.read_end
  pub write_end : new.write_end ≡ old.write_end
  pub input : input_of left in_faults in_steady in_closed new.input ≡ closed_input (input_of left in_faults in_steady in_closed old.input)
  pub output : output_of written out_faults out_steady out_closed new.output ≡ closed_output (output_of written out_faults out_steady out_closed old.output)

module _ {A B C I O : Type 0} (read_told : A → Told) (read_seen : A → View → Type 0) (write_told : B → Told) (write_seen : B → View → Type 0) (coming : C → Option (ℕ → ℕ)) (left : I → Option (List ℕ)) (in_faults : I → ℕ) (in_steady in_closed : I → Bool) (written : O → Option (List ℕ)) (out_faults : O → ℕ) (out_steady out_closed : O → Bool) where
  -- After the handshake, the reader and the writer did their work, each to its own end.
  pub record IsServedByBoth (job : Job A B C I O) (streams ends : Both) (served : Served A B I O) (has : Framing) : Type 0 where
    pub clock_after : C
    pub salting_after : Salting
    pub reader : ReaderEnds has streams.input ends.input (world read_told read_seen coming job.reader job.clock job.salting)
        (world read_told read_seen coming served.reader clock_after salting_after) served.read_end
    pub writer : WriterEnds streams.output ends.output (place write_told write_seen job.writer) (place write_told write_seen served.writer) served.write_end

  -- The handshake was refused with this end, which both ends are. Nothing was recorded but that the connection is gone, and nothing was read
  -- or written any more.
  pub record IsTurnedAway (job : Job A B C I O) (streams ends : Both) (served : Served A B I O) (how : End) : Type 0 where
    pub read_end : served.read_end ≡ how
    pub write_end : served.write_end ≡ how
    pub streams_are : ends ≡ streams
    pub reader : served.reader ≡ job.reader
    pub gone : Goes (place write_told write_seen job.writer) (place write_told write_seen served.writer)

  -- what follows a handshake
  abbrev pub Follows : Job A B C I O → Both → Both → Served A B I O → Result Framing End → Type 0
  Follows job streams ends served (Ok has) = IsServedByBoth job streams ends served has
  Follows job streams ends served (Err how) = IsTurnedAway job streams ends served how

  -- A job's relation to its result: the handshake left the streams as these, what follows it left them as those, and at last both were closed.
  pub record Serves (job : Job A B C I O) (served : Served A B I O) : Type 0 where
    pub conn : served.conn ≡ job.conn
    pub streams : Both
    pub ends : Both
    pub outcome : Result Framing End
    pub handshake : HandshakeOutcome job.auth.uid job.auth.guid
        (record { input = input_of left in_faults in_steady in_closed job.input; output = output_of written out_faults out_steady out_closed job.output })
        streams outcome
    pub follows : Follows job streams ends served outcome
    pub input : input_of left in_faults in_steady in_closed served.input ≡ closed_input ends.input
    pub output : output_of written out_faults out_steady out_closed served.output ≡ closed_output ends.output
