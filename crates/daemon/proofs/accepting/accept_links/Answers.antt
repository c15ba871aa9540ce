use Rattle.std.proofs.Common.{ap, ◌+◌, ◌∙◌}
use Rattle.daemon.proofs.AcceptLemmas.{one-accepted, one-at-most, room-kept}
use Rattle.daemon.proofs.accepting.accept_links.Goals as goal

-- one more link was accepted, by the same hub, after the spawner was settled
pub loop-preserved : goal.loop-preserved
loop-preserved g c =
    let before = c.loop.invariant in
    let same = before.2 in
    let step = c.in-Accepted.ensures in
    let round = rw (same.same_uid, same.same_guid, same.same_seed, same.same_home, c.settle.ensures) at step.accepts.0.1 in
    let still = step.accepts.1 ∙ before.1 in (
      one-accepted _ _ _ _ _ _ _ step.accepts.0.0 before.0 round c.one_less-left.ensures,
      still,
      record {
        same_uid = step.hub.same_uid ∙ same.same_uid;
        same_guid = step.hub.same_guid ∙ same.same_guid;
        same_seed = step.hub.same_seed ∙ same.same_seed;
        same_home = step.hub.same_home ∙ same.same_home;
      },
      record { same = step.steady.same ∙ before.3.same; still = λ steady. still },
      c.in-Ok.ensures.items ∙ before.4,
      room-kept _ _ _ _ _ c.in-Ok.ensures.ok (ap (λ n. n + 1) c.len.ensures) (one-at-most _ _ _ _ _ _ _ _ _ _ _ _ _ _ _ _ _ _ step.accepts.0.0 round),
      step.address ∙ before.6,
    )
