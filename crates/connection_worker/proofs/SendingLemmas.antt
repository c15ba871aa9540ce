-- Outputs as messages, with their serials in order.
use Rattle.std.proofs.Common.{◌≡◌, ℕ, ◌+◌, ◌%◌, List, [], ◌∷◌, ◌++◌, length, sym, ◌∙◌, ap, arith, append_assoc, append-nil}
use Rattle.std.proofs.lemmas.List.{length_push}
use Rattle.service_desk.specs.secret_calls.specs.declared.out.Out.{Out}
use Rattle.service_desk.specs.secret_calls.specs.Outs.{spelled}
use Rattle.service_desk.specs.secret_calls.specs.Serials.{last_serial}
use Rattle.connection_worker.specs.Written.{serial_behind, spelled_behind}
use Rattle.connection_worker.specs.Sending.{Spells}

pub spelled_behind-append : (taken : ℕ) (outs more : List Out) → spelled_behind taken (outs ++ more) ≡ spelled_behind taken outs ++ spelled_behind (taken + length outs) more
spelled_behind-append taken [] more = ap (λ n. spelled_behind n more) (omega arith)
spelled_behind-append taken (out ∷ outs) more =
    ap (λ l. spelled out (serial_behind taken) ++ l) (spelled_behind-append (taken + 1) outs more)
    ∙ sym (append_assoc (spelled out (serial_behind taken)) (spelled_behind (taken + 1) outs) (spelled_behind (taken + 1 + length outs) more))
    ∙ ap (λ n. (spelled out (serial_behind taken) ++ spelled_behind (taken + 1) outs) ++ spelled_behind n more) (omega arith)

-- one more output
pub spells-push : (outs : List Out) (out : Out) (old mid new serial : ℕ) (bytes message : List ℕ) → Spells outs old mid bytes → serial ≡ mid + 1 → new ≡ (mid + 1) % last_serial
    → message ≡ spelled out serial → Spells (outs ++ out ∷ []) old new (bytes ++ message)
spells-push outs out old mid new serial bytes message so serial_is new_is is = λ taken behind.
    let was = so taken behind in
    let number : serial ≡ serial_behind (taken + length outs) = omega (arith, serial_is, was.1) in (
      (ap (λ l. bytes ++ l) (is ∙ ap (spelled out) number ∙ sym (append-nil (spelled out (serial_behind (taken + length outs)))))
          ∙ ap (λ l. l ++ spelled_behind (taken + length outs) (out ∷ [])) was.0 ∙ sym (spelled_behind-append taken outs (out ∷ []))),
      rw (length_push outs out) (omega (arith, was.1, new_is)),
    )
