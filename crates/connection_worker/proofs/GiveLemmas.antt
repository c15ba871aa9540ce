-- Once a desk that is alone has returned what waited, nothing waits any more.
use Rattle.std.proofs.Common.{◌≡◌, true, cond, IsTrue, List, [], ◌∷◌, Option, sym, ◌∙◌, ap, subst}
use Rattle.std.specs.Option.{IsSomeAnd}
use Rattle.service_desk.specs.secret_calls.specs.declared.out.Out.{Out}
use Rattle.service_desk.specs.service_events.specs.declared.event.Event.TheVariants as event
use Rattle.service_desk.specs.service_events.specs.declared.event.Output.TheVariants as output
use Rattle.service_desk.specs.service_events.specs.Replay.{replay}
use Rattle.service_desk.specs.service_events.specs.Single.{is_owed, taking}
use Rattle.service_desk.specs.service_tables.specs.Connections.{desk_of}
use Rattle.service_desk.specs.service_tables.specs.State.{State}
use Rattle.service_desk.specs.service_tables.specs.signal_fanout.specs.declared.rows.DeskRow.{DeskRow}
use Rattle.service_desk.specs.Places.{Place, Extends}
use Rattle.service_desk.specs.Records.{Records, of_own}
use Rattle.service_desk.proofs.RecordLemmas.{alone-extends}
use Rattle.connection_worker.specs.Serving.{HasGiven, IsDue, IsIdle, has_lost, owed}
use Rattle.connection_worker.proofs.AnswerLemmas.{given-idle}
use Rattle.connection_worker.proofs.ServingLemmas.{only-desk}

module _ (old new : Place) (outs : List Out) (alone : IsTrue old.told.is_alone) (is : IsDue old.told (owed old.told) (has_lost old.told)) (so : Extends old new (event.Take old.told.conn) (output.Taken outs)) where
  -- something waited
  was-owed : is_owed old.told.conn old.told.state ≡ true
  was-owed =
      let at : so.at ≡ old.told.state = so.reached ∙ ap (replay old.told.state) (so.alone alone) in
      let waits : Option DeskRow → Type 0 = λ o. IsSomeAnd o (λ (desk : DeskRow). desk.waits ≡ true) in
      subst waits (only-desk old.told (owed old.told) (has_lost old.told) is) (subst (λ (s : State). waits (desk_of old.told.conn s.connections.rows)) at so.fits)

  -- all of it was taken
  was-given : HasGiven old new
  was-given =
      let some : taking old.told.conn old.told.state ≡ event.Take old.told.conn ∷ [] = ap (λ b. cond b (event.Take old.told.conn ∷ []) []) was-owed in
      subst (λ events. Records old new (of_own old.told.state events)) (sym some) (alone-extends old new (event.Take old.told.conn) (output.Taken outs) alone so)

  pub taken-idle : IsIdle new.told
  taken-idle = given-idle old new is was-given
