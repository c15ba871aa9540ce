-- Why the links of a listener aren't accepted any more, by what it has given.
use Rattle.std.proofs.Common.{◌≡◌, ℕ, ◌<◌, ◌^◌, Bool, Option, None, Some, sym, ◌∙◌, ap, arith}
use Rattle.std.specs.Prelude.{IfSome}
use Rattle.daemon.specs.declared.accepting.LoopEnd.{LoopEnd}
use Rattle.daemon.specs.declared.accepting.LoopEnd.TheVariants as loop
use Rattle.daemon.specs.Accepts.{EndsFor, risen}
use Rattle.service_hub.specs.Loop.{HasLoopCause}

-- a number of 64 bits of links, counted from 0 on
counted : (links given : ℕ) → links < 2 ^ 64 → given ≡ risen links 0 → given ≡ links
counted links given fits is = omega (arith, fits, is)

-- the loop's end, by the listener's count of links
pub loop-cause : (how : LoopEnd) (most : Option ℕ) (links given was now : ℕ) (has_ended : Bool) → EndsFor how most links was now has_ended → given ≡ risen links 0
    → IfSome most (λ number. number < 2 ^ 64) → HasLoopCause how most given has_ended was now
loop-cause loop.Ended most links given was now has_ended is risen fits = is.0
loop-cause loop.Reached None links given was now has_ended is risen fits = absurd (let never : None ≡ Some links = is.0 in cc)
loop-cause loop.Reached (Some number) links given was now has_ended is risen fits =
    let same : number ≡ links = let e : Some number ≡ Some links = is.0 in cc in
    ap Some (same ∙ sym (counted links given (rw same at fits) risen))
loop-cause loop.ListenFault most links given was now has_ended is risen fits = is
loop-cause loop.Memory most links given was now has_ended is risen fits = tt
