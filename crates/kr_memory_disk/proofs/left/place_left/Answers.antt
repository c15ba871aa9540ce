use Rattle.std.proofs.Common.{◌∙◌, ◌%◌, ap, get_or, length}
use Rattle.kr_memory_disk.specs.Left.{image_there}
use Rattle.kr_memory_disk.specs.declared.place.Place.TheVariants.{Missing}
use Rattle.kr_memory_disk.proofs.LeftLemmas.{picked_there}
use Rattle.kr_memory_disk.proofs.left.place_left.Goals as goal

-- the place is the one that the number picks
pub returns : goal.returns
returns c image =
    ap (λ place. image_there image c.args.calls.now place) c.picked.ensures
    ∙ ap (λ places. image_there image c.args.calls.now (get_or places (c.args.choice % length places) Missing)) c.deref.ensures.value
    ∙ picked_there image c.args.calls.now c.in_ok-places.places.items c.args.choice c.in_ok-places.ensures.lie
