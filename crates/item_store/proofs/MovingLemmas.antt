-- The id of a row at the pairs of both attributes.
use Rattle.std.proofs.Common.{◌≡◌, ℕ, ◌==◌, ◌&&◌, not, Bool, true, false, cond, List, Option, Some, None, refl, sym, ap, subst, ◌∙◌, arith}
use Rattle.std.specs.Prelude.{IfSome}
use Rattle.std.specs.Option.{is_some, option_map}
use Rattle.std.proofs.lemmas.Bool.Decides.{nat_tests}
use Rattle.kr_base.specs.IdLists.{has_id, with_id, without_id}
use Rattle.kr_base.specs.declared.attributes.AttrValue.{AttrValue}
use Rattle.kr_base.proofs.IdLemmas.{Rises}
use Rattle.attribute_match.specs.Match.{has_pair}
use Rattle.attribute_index.specs.Index.{Index, IsAtJust, IsMoved, IsPut, IsSame, IsTaken, Names, ids_in_names, is_own}
use Rattle.attribute_index.proofs.PairLemmas.{without-lacking, without-with}
use Rattle.item_store.specs.Moves.{IsMoving, with_attributes}
use Rattle.item_store.specs.Rows.{IsKept, Row, Rows, attributes_of, row_at, rows_changed}
use Rattle.item_store.proofs.RowLemmas.{at-changed, where-rises}
use Rattle.item_store.proofs.IndexLemmas.{at-just, kept-moved, kept-same}

moved-ids : (a b : Bool) (id : ℕ) (old now new : List ℕ) → now ≡ cond (a && not b) (with_id id old) old → new ≡ cond (b && not a) (without_id id now) now → new ≡ cond (a && not b) (with_id id old) (cond (b && not a) (without_id id old) old)
moved-ids true true id old now new p q = q ∙ p
moved-ids true false id old now new p q = q ∙ p
moved-ids false true id old now new p q = q ∙ ap (without_id id) p
moved-ids false false id old now new p q = q ∙ p

-- put at the pairs after, and taken out at those before
moved-whole : (before after : List (List ℕ × AttrValue)) (id : ℕ) (old now new : Names) → IsPut (is_own after before) id old now → IsTaken (is_own before after) id now new → IsMoved before after id old new
moved-whole before after id old now new put taken n t = moved-ids (has_pair n t after) (has_pair n t before) id (ids_in_names old n t) (ids_in_names now n t) (ids_in_names new n t) (put n t) (taken n t)

back-ids : (a b : Bool) (id : ℕ) (old now new : List ℕ) → Rises old → has_id old id ≡ b → now ≡ cond (a && not b) (with_id id old) old → new ≡ cond (a && not b) (without_id id now) now → new ≡ old
back-ids true true id old now new rises there p q = q ∙ p
back-ids true false id old now new rises there p q = q ∙ ap (without_id id) p ∙ without-with id old rises ∙ without-lacking id old there
back-ids false true id old now new rises there p q = q ∙ p
back-ids false false id old now new rises there p q = q ∙ p

-- put at the pairs after, and taken out there again
moved-back : (before after : List (List ℕ × AttrValue)) (id : ℕ) (old now new : Names) → ((n t : List ℕ) → Rises (ids_in_names old n t)) → IsAtJust before id old → IsPut (is_own after before) id old now → IsTaken (is_own after before) id now new → IsSame old new
moved-back before after id old now new rises just put taken n t =
    back-ids (has_pair n t after) (has_pair n t before) id (ids_in_names old n t) (ids_in_names now n t) (ids_in_names new n t) (rises n t) (just n t) (put n t) (taken n t)

kept-rises : (rows : Rows) (index : Index) → IsKept rows index → (n t : List ℕ) → Rises (ids_in_names index.names n t)
kept-rises rows index kept n t = subst (λ l. Rises l) (sym (kept.indexed.pairs n t)) (where-rises (λ row. has_pair n t (attributes_of row)) rows kept.rising)

itself : (n : ℕ) → (n == n) ≡ true
itself n = grind (arith, nat_tests)

-- a change of attributes begins
pub begun : (rows new : Rows) (index now : Index) (number : ℕ) (after : List (List ℕ × AttrValue)) (time : ℕ) (other : List (List ℕ × AttrValue)) (modified : ℕ) → IsKept rows index → is_some (row_at number rows) ≡ true
    → IfSome (row_at number rows) (λ row. IsPut (is_own after (attributes_of row)) number index.names now.names) → now.all ≡ index.all → new ≡ rows_changed number (with_attributes after time) rows
    → rows_changed number (with_attributes other modified) new ≡ rows → IfSome (row_at number rows) (λ row. other ≡ attributes_of row) → IsMoving new now number other modified
begun rows new index now number after time other modified kept there put all set back given =
    let step : (o : Option Row) → row_at number rows ≡ o → is_some o ≡ true → IfSome o (λ row. IsPut (is_own after (attributes_of row)) number index.names now.names) → IfSome o (λ row. other ≡ attributes_of row) → IsMoving new now number other modified =
    elim [
      | None ↦ λ at yes puts is. absurd cc
      | Some own ↦ λ at yes puts is.
          let f = with_attributes after time in
          let found : row_at number new ≡ Some (f own) =
          ap (λ (r : Rows). row_at number r) set ∙ at-changed number f rows number ∙ ap (λ b. cond b (option_map f (row_at number rows)) (row_at number rows)) (itself number) ∙ ap (λ o. option_map f o) at in
          let put_other : IsPut (is_own after other) number index.names now.names = subst (λ a. IsPut (is_own after a) number index.names now.names) (sym is) puts in
          let just : IsAtJust other number index.names = subst (λ a. IsAtJust a number index.names) (sym is) (at-just rows index kept.rising kept.indexed number own at) in
          record {
            there = ap is_some found;
            forward = λ names taken.
                let out : IsTaken (is_own other after) number now.names names = subst (λ o. IfSome o (λ row. IsTaken (is_own other (attributes_of row)) number now.names names)) found taken in
                let moved : IsMoved other after number index.names names = moved-whole other after number index.names now.names names put_other out in
                let moves : IfSome (row_at number rows) (λ row. IsMoved (attributes_of row) after number index.names names) =
                subst (λ o. IfSome o (λ row. IsMoved (attributes_of row) after number index.names names)) (sym at) (subst (λ a. IsMoved a after number index.names names) is moved) in
                kept-moved rows new index (record { names = names; all = now.all }) number f after kept there (λ row. refl) set moves all;
            back = λ names taken.
                let out : IsTaken (is_own after other) number now.names names = subst (λ o. IfSome o (λ row. IsTaken (is_own (attributes_of row) other) number now.names names)) found taken in
                kept-same rows (rows_changed number (with_attributes other modified) new) index (record { names = names; all = now.all }) kept back (moved-back other after number index.names now.names names (kept-rises rows index kept) just put_other out) all;
          }
    ] in
    step (row_at number rows) refl there put given
