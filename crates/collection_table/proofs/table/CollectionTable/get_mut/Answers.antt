use Rattle.std.proofs.Common.{inl, subst}
use Rattle.kr_base.specs.Attributes.{IsInOrder}
use Rattle.collection_table.specs.Entries.{IsPlaceOf, TableState}
use Rattle.collection_table.proofs.EntryLemmas.{bound, place-changed, value_found}
use Rattle.collection_table.proofs.table.CollectionTable.get_mut.Goals as goal

pub place_mut-requires : goal.place_mut-requires
place_mut-requires g c =
    let inside : IsPlaceOf c.args.stem.now c.self.inside.entries.items c.in-Some.place = rw c.deref.ensures.value at c.in-Some.ensures.found in
    rw (← c.self.view_is) (bound c.args.stem.now c.self.inside.entries.items c.in-Some.place inside)

-- the place is that of the stem
pub returns-in-Some : goal.returns-in-Some
returns-in-Some g c =
    let ordered : IsInOrder c.args.self.now.entries = subst (λ (t : TableState g.row.S.Denot). IsInOrder t.entries) c.self.view_is c.self.invariant in
    let inside : IsPlaceOf c.args.stem.now c.self.inside.entries.items c.in-Some.place = rw c.deref.ensures.value at c.in-Some.ensures.found in
    let there : IsPlaceOf c.args.stem.now c.args.self.now.entries c.in-Some.place = subst (λ (t : TableState g.row.S.Denot). IsPlaceOf c.args.stem.now t.entries c.in-Some.place) c.self.view_is inside in (
      λ i. inl (c.place_mut.result.ghost_name, λ w. record { entries = place-changed c.args.stem.now c.args.self.now.entries c.in-Some.place w ordered there i; room = c.args.self.now.room }),
      record { writes_back = tt; value = value_found c.args.stem.now c.args.self.now.entries c.in-Some.place c.place_mut.result.now ordered there c.place_mut.ensures.value },
    )
