-- The status of a connection, and whether it is there.
use Rattle.std.proofs.Common.{◌≡◌, Bool, true, false, List, [], ◌∷◌, Some, None, IfSome, IsSomeAnd, refl}
use Rattle.std.proofs.lemmas.Bool.{or_right}
use Rattle.kr_base.specs.declared.ids.ConnId.{ConnId}
use Rattle.signal_fanout.specs.declared.rows.ConnRow.{ConnRow}
use Rattle.signal_fanout.specs.declared.rows.DeskRow.{DeskRow}
use Rattle.service_tables.specs.Connections.{is_row, has, desk_of}

-- a fact of the desk, if it is there, is one of the desk that is there
pub told_of-there : (P : DeskRow → Type 0) (conn : ConnId) (rows : List ConnRow) → has conn rows ≡ true → IfSome (desk_of conn rows) P → IsSomeAnd (desk_of conn rows) P
told_of-there P conn [] there told = cc
told_of-there P conn (row ∷ rows) there told =
    let pass : (b : Bool) → is_row conn row ≡ b → IsSomeAnd (desk_of conn (row ∷ rows)) P =
    elim [
      | true ↦ λ is. rw is (rw is at told)
      | false ↦ λ is. rw is (told_of-there P conn rows (rw is at there) (rw is at told))
    ] in
    pass (is_row conn row) refl

-- a connection that has a status is there
pub has-told : (conn : ConnId) (rows : List ConnRow) (desk : DeskRow) → Some desk ≡ desk_of conn rows → has conn rows ≡ true
has-told conn [] desk told = cc
has-told conn (row ∷ rows) desk told =
    let pass : (b : Bool) → is_row conn row ≡ b → has conn (row ∷ rows) ≡ true =
    elim [
      | true ↦ λ is. rw is refl
      | false ↦ λ is. or_right (is_row conn row) (has conn rows) (has-told conn rows desk (rw is at told))
    ] in
    pass (is_row conn row) refl

-- one that has none isn't
pub has-none : (conn : ConnId) (rows : List ConnRow) → None ≡ desk_of conn rows → has conn rows ≡ false
has-none conn [] told = refl
has-none conn (row ∷ rows) told =
    let pass : (b : Bool) → is_row conn row ≡ b → has conn (row ∷ rows) ≡ false =
    elim [
      | true ↦ λ is. let h : None ≡ Some _ = rw is at told in cc
      | false ↦ λ is. rw is (has-none conn rows (rw is at told))
    ] in
    pass (is_row conn row) refl
