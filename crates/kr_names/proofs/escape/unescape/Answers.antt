use Rattle.std.proofs.Common.{◌≡◌, ◌+◌, ◌<◌, ◌∷◌, length, get_or, drop, arith, length-drop}
use Rattle.kr_names.specs.Escape.{unescaped}
use Rattle.kr_names.proofs.EscapeLemmas.{unescaped_other, unescaped_short, unescaped_more}
use Rattle.kr_names.proofs.escape.unescape.Goals as goal
use Rattle.kr_names.proofs.escape.unescape.Goals.{else-text-place-eq95-via-then-text-place-eq95+else-text-place-gt2, else-text-place-eq95-via-else-text-place-eq95}

-- the byte begins no escape, or there is too little after it
pub loop-place-preserved : goal.loop-place-preserved
loop-place-preserved c =
    let text = c.args.text.now in
    let place = c.loop-place.place in
    let one : unescaped (get_or text place 0 ∷ drop (place + 1) text) ≡ get_or text place 0 ∷ unescaped (drop (place + 1) text) =
    elim c.else-text-place-eq95.branch [
      | else-text-place-eq95-via-then-text-place-eq95+else-text-place-gt2 w ↦
          let short : length (drop (place + 1) text) < 2 = simp length-drop (omega arith) in
          unescaped_short (get_or text place 0) (drop (place + 1) text) short
      | else-text-place-eq95-via-else-text-place-eq95 w ↦
          unescaped_other (get_or text place 0) (drop (place + 1) text) w.if-text-place-eq95.false
    ] in
    rw c.in_ok-push-2.ensures.items (unescaped_more text c.loop-place.bytes.items place (omega arith) one c.loop-place.invariant)
