use Rattle.std.proofs.Common.{◌++◌, true, refl, ap, false, None}
use Rattle.std.specs.List.{concat}
use Rattle.lone_desk.specs.service_events.specs.declared.event.Event.TheVariants as event
use Rattle.lone_desk.specs.service_tables.specs.Opened.{Contents, opened_state}
use Rattle.lone_desk.specs.service_tables.specs.Sound.{IsSound}
use Rattle.lone_desk.specs.service_desk.specs.Places.{Told}
use Rattle.lone_desk.specs.service_events.specs.Single.{single}
use Rattle.service_hub.specs.connection_worker.specs.Written.{given_by, spelled_behind}
use Rattle.keyring_program.specs.Events.{the_connection, joined}
use Rattle.keyring_program.proofs.run_laws.each_request_has_its_reply.Goals as goal

-- the service after the joining, as a desk sees it
told : Contents → Told
told contents = record { conn = the_connection; home = None; state = joined contents; count = 1; is_alone = true; is_steady = true; is_waiting = false }

pub returns-clause-outputs : goal.returns-clause-outputs
unfolding told
returns-clause-outputs c contents run asked sound legal fit =
    let laws = c.steps_keep_the_rows_sound.ensures in
    let joins : IsSound (joined contents) = laws.step (opened_state contents) (event.Connect the_connection) (laws.start contents sound) legal.0 in
    ap (λ outs. concat run.answers ++ spelled_behind 0 outs) (c.each_request_is_answered_at_once.ensures (told contents) asked (record { sound = joins; taken = 0; only = refl }) legal.1 fit)

pub returns-clause-replies : goal.returns-clause-replies
returns-clause-replies c = λ contents asked. c.each_request_has_one_reply.ensures asked the_connection (joined contents)

-- what is given to the connection is what is written
pub returns-clause-kept : goal.returns-clause-kept
unfolding told
returns-clause-kept c contents run asked sound legal fit =
    let laws = c.steps_keep_the_rows_sound.ensures in
    let joins : IsSound (joined contents) = laws.step (opened_state contents) (event.Connect the_connection) (laws.start contents sound) legal.0 in (
      given_by the_connection (joined contents) (single the_connection (joined contents) asked),
      refl,
      c.no_reply_is_lost.ensures (told contents) asked (record { sound = joins; taken = 0; only = refl }) legal.1 fit,
    )
