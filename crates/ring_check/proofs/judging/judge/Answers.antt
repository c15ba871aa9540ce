use Rattle.std.proofs.Common.{◌≡◌, ◌∙◌, IfOk}
use Rattle.rayon.proofs.ToStd.{slice-AllZip}
use Rattle.ring_check.specs.Verdict.{password_in, verdict_of}
use Rattle.ring_check.proofs.JudgeLemmas.{collected}
use Rattle.ring_check.proofs.judging.judge.Goals as goal

-- the results are those of the closure at each file, in order
pub returns : goal.returns
returns g c =
    let h = c.in_ok-judged.ensures in
    let chain = rw (c.with_min_len.ensures.base, c.map.ensures.base, c.map.ensures.f) at h.1 in
    let verdict = verdict_of (password_in c.args.password) in
    let each = slice-AllZip chain.0 c.args.files.now (chain.1 ∙ c.par_iter.ensures) (λ file r. IfOk r (λ v. v ≡ verdict file)) h.0 chain.2 in
    collected _ verdict (λ v. v.items) c.args.files.now h.0 c.in_ok-judged.judged _ each h.2
