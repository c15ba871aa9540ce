use Rattle.std.proofs.Common.{◌≡◌, ◌-◌, refl, ap, sym, subst, ◌∙◌, arith}
use Rattle.daemon.specs.Accepts.{IsTurnedAway, Unjoined, Unstarted, Started}
use Rattle.daemon.proofs.accepting.admit.Goals as goal

-- no connection could join
pub returns-in_default-clause-admits : goal.returns-in_default-clause-admits
returns-in_default-clause-admits g c =
    record {
      round = Unjoined c.in_default.field-0 c.args.link.input c.args.link.output;
      input_is = refl;
      output_is = refl;
      admitted = record { refused = c.in_default.ensures.refused; lent = c.in_default.ensures.lent; counted = c.in_default.ensures.counted; started = refl; unstarted = refl };
      hung = c.in_default.ensures.hung;
    }

-- the job was started
pub returns-in-Ok-start-clause-admits : goal.returns-in-Ok-start-clause-admits
returns-in-Ok-start-clause-admits g c =
    record {
      round = Started c.in-Ok.job;
      input_is = c.in-Ok.ensures.link.0;
      output_is = c.in-Ok.ensures.link.1;
      admitted = record {
        made = c.in-Ok.ensures.made;
        lent = c.in-Ok.ensures.lent;
        unjoined = c.in-Ok.ensures.counted;
        started = ap (λ s. s.started) c.in-Ok-start.ensures.started;
        unstarted = ap (λ s. s.unstarted) c.in-Ok-start.ensures.started;
      };
      hung = tt;
    }

-- the spawner failed
pub turn_away-requires-clause-reader : goal.turn_away-requires-clause-reader
turn_away-requires-clause-reader g c κs within =
    let refused = rw c.in-Err-Failed.field-0-is at c.in-Err-Failed.ensures.refused in
    ap (λ j. (g.U.Reader.Desk.told j.reader).home) refused.back ∙ (c.in-Ok.ensures.made.reader.home_is ∙ sym c.in-Ok.ensures.hub.same_home)

pub turn_away-requires-clause-writer : goal.turn_away-requires-clause-writer
turn_away-requires-clause-writer g c κs within =
    let refused = rw c.in-Err-Failed.field-0-is at c.in-Err-Failed.ensures.refused in
    ap (λ j. (g.U.Writer.Desk.told j.writer).home) refused.back ∙ (c.in-Ok.ensures.made.writer.home_is ∙ sym c.in-Ok.ensures.hub.same_home)

pub returns-in-Err-Failed-clause-admits : goal.returns-in-Err-Failed-clause-admits
returns-in-Err-Failed-clause-admits g c =
    let reader = g.U.Reader.Desk in
    let writer = g.U.Writer.Desk in
    let hub = g.U.Hub in
    let refused = rw c.in-Err-Failed.field-0-is at c.in-Err-Failed.ensures.refused in
    let turned = c.turn_away.ensures in
    record {
      round = Unstarted c.in-Ok.job turned.away.0;
      input_is = c.in-Ok.ensures.link.0;
      output_is = c.in-Ok.ensures.link.1;
      admitted = record {
        joined = hub.view c.join_link.new.hub;
        made = c.in-Ok.ensures.made;
        away = subst (λ j. IsTurnedAway reader.has_seen writer.told writer.has_seen j turned.away.0 (hub.view c.join_link.new.hub) (hub.view c.turn_away.new.hub)) refused.back turned.away.1;
        lent = turned.lent ∙ (ap (λ n. n - 2) c.in-Ok.ensures.lent ∙ omega arith);
        unjoined = turned.counted ∙ c.in-Ok.ensures.counted;
        started = refused.started;
        counted = refused.counted;
      };
      hung = rw (ap (λ j. j.input) refused.back, ap (λ j. j.output) refused.back) at turned.hung;
    }

-- no memory was left
pub turn_away-requires-in-Err-OutOfMemory-clause-reader : goal.turn_away-requires-in-Err-OutOfMemory-clause-reader
turn_away-requires-in-Err-OutOfMemory-clause-reader g c κs within =
    let refused = rw c.in-Err-OutOfMemory.field-0-is at c.in-Err-OutOfMemory.ensures.refused in
    ap (λ j. (g.U.Reader.Desk.told j.reader).home) refused.back ∙ (c.in-Ok.ensures.made.reader.home_is ∙ sym c.in-Ok.ensures.hub.same_home)

pub turn_away-requires-in-Err-OutOfMemory-clause-writer : goal.turn_away-requires-in-Err-OutOfMemory-clause-writer
turn_away-requires-in-Err-OutOfMemory-clause-writer g c κs within =
    let refused = rw c.in-Err-OutOfMemory.field-0-is at c.in-Err-OutOfMemory.ensures.refused in
    ap (λ j. (g.U.Writer.Desk.told j.writer).home) refused.back ∙ (c.in-Ok.ensures.made.writer.home_is ∙ sym c.in-Ok.ensures.hub.same_home)

pub returns-in-Err-OutOfMemory-clause-admits : goal.returns-in-Err-OutOfMemory-clause-admits
returns-in-Err-OutOfMemory-clause-admits g c =
    let reader = g.U.Reader.Desk in
    let writer = g.U.Writer.Desk in
    let hub = g.U.Hub in
    let refused = rw c.in-Err-OutOfMemory.field-0-is at c.in-Err-OutOfMemory.ensures.refused in
    let turned = c.turn_away-in-Err-OutOfMemory.ensures in
    record {
      round = Unstarted c.in-Ok.job turned.away.0;
      input_is = c.in-Ok.ensures.link.0;
      output_is = c.in-Ok.ensures.link.1;
      admitted = record {
        joined = hub.view c.join_link.new.hub;
        made = c.in-Ok.ensures.made;
        away = subst (λ j. IsTurnedAway reader.has_seen writer.told writer.has_seen j turned.away.0 (hub.view c.join_link.new.hub) (hub.view c.turn_away-in-Err-OutOfMemory.new.hub)) refused.back turned.away.1;
        lent = turned.lent ∙ (ap (λ n. n - 2) c.in-Ok.ensures.lent ∙ omega arith);
        unjoined = turned.counted ∙ c.in-Ok.ensures.counted;
        started = refused.started;
        counted = refused.counted;
      };
      hung = rw (ap (λ j. j.input) refused.back, ap (λ j. j.output) refused.back) at turned.hung;
    }
