use Rattle.std.proofs.Common.{◌≡◌, ◌⊎◌, inl, inr, Some, ap, subst}
use Rattle.kr_memory.specs.Source.{SteadySourceState}
use Rattle.keyring_program.specs.Status.{IsLoadStatus}
use Rattle.keyring_program.specs.declared.status.Status.{Status}
use Rattle.keyring_program.specs.declared.status.Status.TheVariants as status
use Rattle.keyring_program.proofs.LoadLemmas.{talk-status, zero-still}
use Rattle.keyring_program.proofs.load.talk.Goals as goal

-- the client's connection ends in none of these ways
no-end : (s : Status) → IsLoadStatus s
    → (s ≡ status.Usage) ⊎ ((s ≡ status.ReadFault) ⊎ ((s ≡ status.FolderFault) ⊎ ((s ≡ status.ListenFault) ⊎ ((s ≡ status.Damaged) ⊎ ((s ≡ status.PasswordTooLong) ⊎ ((s ≡ status.EventsSpent) ⊎ (s ≡ status.Overrun))))))) → ⊥
no-end s may (inl is) = subst IsLoadStatus is may
no-end s may (inr (inl is)) = subst IsLoadStatus is may
no-end s may (inr (inr (inl is))) = subst IsLoadStatus is may
no-end s may (inr (inr (inr (inl is)))) = subst IsLoadStatus is may
no-end s may (inr (inr (inr (inr (inl is))))) = subst IsLoadStatus is may
no-end s may (inr (inr (inr (inr (inr (inl is)))))) = subst IsLoadStatus is may
no-end s may (inr (inr (inr (inr (inr (inr (inl is))))))) = subst IsLoadStatus is may
no-end s may (inr (inr (inr (inr (inr (inr (inr is))))))) = subst IsLoadStatus is may

pub unreachable-requires : goal.unreachable-requires
unreachable-requires g c =
    no-end c.serve_client.result
    (talk-status c.args.seed c.args.sent.items _ _ _ _ _ _ _ c.serve_client.result c.serve_client.ensures c.requires.whole c.requires.fit (ap (λ (s : SteadySourceState). Some s.left) c.new-input.ensures) zero-still c.in-Ok-with_nothing.ensures.steady c.in-Ok-with_nothing.ensures.nothing) c.in-Usage.is

-- the bytes break no rule
pub unreachable-requires-in-Violation : goal.unreachable-requires-in-Violation
unreachable-requires-in-Violation g c =
    subst IsLoadStatus c.in-Violation.is
    (talk-status c.args.seed c.args.sent.items _ _ _ _ _ _ _ c.serve_client.result c.serve_client.ensures c.requires.whole c.requires.fit (ap (λ (s : SteadySourceState). Some s.left) c.new-input.ensures) zero-still c.in-Ok-with_nothing.ensures.steady c.in-Ok-with_nothing.ensures.nothing)

-- the handshake is open
pub unreachable-requires-in-AuthRefused : goal.unreachable-requires-in-AuthRefused
unreachable-requires-in-AuthRefused g c =
    subst IsLoadStatus c.in-AuthRefused.is
    (talk-status c.args.seed c.args.sent.items _ _ _ _ _ _ _ c.serve_client.result c.serve_client.ensures c.requires.whole c.requires.fit (ap (λ (s : SteadySourceState). Some s.left) c.new-input.ensures) zero-still c.in-Ok-with_nothing.ensures.steady c.in-Ok-with_nothing.ensures.nothing)
