use Rattle.std.proofs.Common.{◌≡◌, ◌++◌, ap, sym, ◌∙◌}
use Rattle.folder_store.specs.Names.{ending}
use Rattle.folder_store.proofs.NameLemmas.{no_ring_name}
use Rattle.folder_store.proofs.names.stem_of_name.Goals as goal

pub returns-in-Some-2 : goal.returns-in-Some-2
unfolding ending
returns-in-Some-2 c =
    let made : c.in-Some-2.stem ≡ c.in-Some.front.now = rw c.in-Some-2.is at c.in_ok-stem-in-Some.ensures.made in
    record { is_stem = c.as_str-text.ensures.stem; spelled = c.in-Some.ensures ∙ ap (λ front. front ++ ending) (sym made) }

pub returns-in-None-2 : goal.returns-in-None-2
unfolding ending
returns-in-None-2 c value is =
    no_ring_name c.args.name.now c.in-Some.front.now value c.in-Some.ensures (c.in_ok-stem-in-Some.ensures.no_stem.0 cc) is

pub returns-in-None : goal.returns-in-None
unfolding ending
returns-in-None c value is = c.in-None.ensures value is.spelled
