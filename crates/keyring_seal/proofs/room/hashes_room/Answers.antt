use Rattle.std.proofs.Common.{◌≡◌, ℕ, ◌<◌, List, length, None, ap, rules, arith}
use Rattle.attribute_hash.specs.Hash.{pair_hash, hashes}
use Rattle.keyring_file.specs.Canonical.{pair_text}
use Rattle.kr_base.specs.declared.attributes.AttrValue.{AttrValue}
use Rattle.keyring_seal.proofs.RoomLemmas.{taken_over, taken_all, length_list_text, flat_map-map}
use Rattle.keyring_seal.proofs.room.hashes_room.Goals as goal

pub returns-in_err-left-2 : goal.returns-in_err-left-2
returns-in_err-left-2 c =
    let xs = c.as_slice-pair-items.result.now in
    let text : List ℕ × AttrValue → List ℕ = λ pair. pair_text (pair_hash pair) in
    let none : c.from_residual-in_err-left-2.result ≡ None = search rules in
    let over : c.loop-pair.left < length (text c.pair-item.result) = c.in_err-left-2.ensures in
    let whole = taken_over text xs 4 c.args.room c.loop-pair.left c.loop-pair.pair-index c.pair-item.result c.loop-pair-test.true c.pair-item.is c.loop-pair.invariant over in
    let long = length_list_text pair_text (hashes xs) in
    let flat = ap (λ (l : List ℕ). length l) (flat_map-map pair_text pair_hash xs) in
    rw (none, ← c.as_slice-pair-items.ensures.value) (omega (arith, whole, long, flat))

pub returns : goal.returns
returns c =
    let xs = c.as_slice-pair-items.result.now in
    let text : List ℕ × AttrValue → List ℕ = λ pair. pair_text (pair_hash pair) in
    let whole = taken_all text xs 4 c.args.room c.loop-pair.left c.loop-pair.pair-index c.loop-pair-test.false c.loop-pair.invariant in
    let long = length_list_text pair_text (hashes xs) in
    let flat = ap (λ (l : List ℕ). length l) (flat_map-map pair_text pair_hash xs) in
    rw (← c.as_slice-pair-items.ensures.value) (omega (arith, whole, long, flat))
