-- A handshake goes on by turns: lines are answered, and more is read.
use Rattle.std.proofs.Common.{◌≡◌, ℕ, inl, inr, Bool, true, false, List, [], ◌∷◌, ◌++◌, take, Ok, Err, IsTrue, refl, sym, ◌∙◌, ap, append_assoc, append-nil, subst}
use Rattle.std.proofs.lemmas.List.Folds.{concat-append}
use Rattle.std.specs.List.{concat}
use Rattle.std.specs.Option.{is_some}
use Rattle.dbus_auth.specs.Answers.{data_line}
use Rattle.dbus_auth_client.specs.declared.client.ClientFault.{ClientFault}
use Rattle.dbus_auth_client.specs.declared.client.ClientFault.TheVariants as fault
use Rattle.dbus_auth_client.specs.Hearing.{Talk, waiting, refused, opened, silent, told, talk, continued}
use Rattle.dbus_auth_client.specs.Openings.{opening, begin_line}
use Rattle.dbus_auth_client.proofs.HearingLemmas.{talk-append}
use Rattle.kr_dialer.specs.Carrying.{LinkState, Carried, IsFront, ReadsPiece}
use Rattle.kr_outside.specs.declared.source.Failed.{Failed}
use Rattle.dbus_opening.specs.declared.refused.OpenRefused.{OpenRefused}
use Rattle.dbus_opening.specs.declared.refused.OpenRefused.TheVariants as end
use Rattle.dbus_opening.specs.Opening.{Awaits, Goes, HoldsMore, Opens, Says, Turned, greeting}
use Rattle.kr_dialer.proofs.CarriedLemmas.{carried-read, carried-still, carried-wrote, front-behind, front-more, front-trans, rose-after, still-dialled}

-- ---- the opening

-- it was sent
pub goes-none : (uid : ℕ) (asked : Bool) (held : List ℕ) (old now : LinkState) → asked ≡ false → held ≡ [] → Says (opening uid) old now (Ok tt) → Goes uid asked held old now
goes-none uid asked held old now new none said = record {
  read = [];
  lines = [];
  carried = let e : opening uid ++ [] ≡ opening uid = append-nil (opening uid) in rw e said.0;
  still = said.1;
  goes = ap (λ (l : List ℕ). talk false l) (sym none) ∙ ap (λ (b : Bool). talk b held) (sym new);
}

-- it wasn't
pub unopened : (uid : ℕ) (old now : LinkState) (why : OpenRefused) → Says (opening uid) old now (Err why) → Opens uid old now (Err why)
unopened uid old now end.WriteFault said = record {
  read = [];
  wrote = said.0;
  carried = said.2;
  ends = (front-trans said.0 (opening uid) (greeting uid []) said.1 (front-more (opening uid) (concat (talk false []).said)), said.3);
}
unopened uid old now _ said = absurd said

-- there was no memory to begin
pub unbegun : (uid : ℕ) (old : LinkState) → Carried old old [] [] → Opens uid old old (Err end.OutOfMemory)
unbegun uid old none = record { read = []; wrote = []; carried = none; ends = ((greeting uid [], refl), refl) }

-- ---- one line

-- what is said in a talk with these lines first
said-with : (uid : ℕ) (read : List ℕ) (lines : List (List ℕ)) (t : Talk) → talk false read ≡ told lines t → greeting uid read ≡ (opening uid ++ concat lines) ++ concat t.said
said-with uid read lines t is =
    ap (λ (it : Talk). opening uid ++ concat it.said) is ∙ ap (λ (l : List ℕ). opening uid ++ l) (concat-append lines t.said)
    ∙ sym (append_assoc (opening uid) (concat lines) (concat t.said))

-- the lines so far begin all that is said
front-said : (uid : ℕ) (read : List ℕ) (lines : List (List ℕ)) (t : Talk) → talk false read ≡ told lines t → IsFront (opening uid ++ concat lines) (greeting uid read)
front-said uid read lines t is = (concat t.said, said-with uid read lines t is)

-- they are all that is said
all-said : (uid : ℕ) (read : List ℕ) (lines : List (List ℕ)) (t : Talk) → talk false read ≡ told lines t → t.said ≡ [] → opening uid ++ concat lines ≡ greeting uid read
all-said uid read lines t is none =
    sym (said-with uid read lines t is ∙ ap (λ (l : List (List ℕ)). (opening uid ++ concat lines) ++ concat l) none ∙ append-nil (opening uid ++ concat lines))

-- a talk that awaits more, when more bytes come
more-goes : (asked : Bool) (read held more : List ℕ) (lines : List (List ℕ)) → talk false read ≡ told lines (talk asked held) → talk asked held ≡ silent (waiting asked held)
    → talk false (read ++ more) ≡ told lines (talk asked (held ++ more))
more-goes asked read held more lines goes waits =
    talk-append false read more ∙ ap (λ (t : Talk). continued t more) (goes ∙ ap (λ (t : Talk). told lines t) waits)
    ∙ ap (λ (l : List (List ℕ)). told l (talk asked (held ++ more))) (append-nil lines)

-- more was read
pub goes-more : (uid : ℕ) (was asked : Bool) (held left : List ℕ) (old now next : LinkState) → Goes uid was held old now → asked ≡ was
    → talk was held ≡ silent (waiting was held) → HoldsMore held left now next (Ok tt) → Goes uid asked left old next
goes-more uid was asked held left old now next so same waits got = record {
  read = so.read ++ got.0;
  lines = so.lines;
  carried = carried-read old now next so.read got.0 (opening uid ++ concat so.lines) so.carried got.1;
  still = got.3 ∙ so.still;
  goes = rw (got.2, same) (more-goes was so.read held got.0 so.lines so.goes waits);
}

-- no more was: the link failed, or ended, or there was no memory
pub goes-less : (uid : ℕ) (was : Bool) (held left : List ℕ) (old now next : LinkState) (why : OpenRefused) → Goes uid was held old now
    → talk was held ≡ silent (waiting was held) → HoldsMore held left now next (Err why) → Opens uid old next (Err why)
goes-less uid was held left old now next end.ReadFault so waits got =
    let how : talk false so.read ≡ told so.lines (silent (waiting was held)) = so.goes ∙ ap (λ (t : Talk). told so.lines t) waits in
    record {
      read = so.read;
      wrote = opening uid ++ concat so.lines;
      carried = carried-still old now next so.read (opening uid ++ concat so.lines) so.carried got.0;
      ends = (
        subst (λ (t : Talk). Awaits t.end) (sym how) tt,
        all-said uid so.read so.lines (silent (waiting was held)) how refl,
        rose-after old.faults now.faults next.faults so.still got.1,
      );
    }
goes-less uid was held left old now next (end.Handshake fault.EndedEarly) so waits got =
    let how : talk false so.read ≡ told so.lines (silent (waiting was held)) = so.goes ∙ ap (λ (t : Talk). told so.lines t) waits in
    record {
      read = so.read;
      wrote = opening uid ++ concat so.lines;
      carried = carried-still old now next so.read (opening uid ++ concat so.lines) so.carried got.0;
      ends = (
        inr (refl, subst (λ (t : Talk). Awaits t.end) (sym how) tt, got.1),
        all-said uid so.read so.lines (silent (waiting was held)) how refl,
        got.2 ∙ so.still,
      );
    }
goes-less uid was held left old now next end.OutOfMemory so waits got = record {
  read = so.read ++ got.0;
  wrote = opening uid ++ concat so.lines;
  carried = carried-read old now next so.read got.0 (opening uid ++ concat so.lines) so.carried got.1;
  ends = (front-said uid (so.read ++ got.0) so.lines (talk was (held ++ got.0)) (more-goes was so.read held got.0 so.lines so.goes waits), got.2 ∙ so.still);
}
goes-less uid was held left old now next _ so waits got = absurd got

-- a line was said, and the talk goes on
line-said : (uid : ℕ) (lines : List (List ℕ)) (line : List ℕ) → (opening uid ++ concat lines) ++ line ≡ opening uid ++ concat (lines ++ line ∷ [])
line-said uid lines line =
    append_assoc (opening uid) (concat lines) line
    ∙ ap (λ (l : List ℕ). opening uid ++ l) (ap (λ (l : List ℕ). concat lines ++ l) (sym (append-nil line)) ∙ sym (concat-append lines (line ∷ [])))

told-twice : (lines : List (List ℕ)) (line : List ℕ) (t : Talk) → told lines (told (line ∷ []) t) ≡ told (lines ++ line ∷ []) t
told-twice lines line t = ap (λ (l : List (List ℕ)). record { said = l; end = t.end }) (sym (append_assoc lines (line ∷ []) t.said))

-- DATA was answered
pub goes-data : (uid : ℕ) (was asked : Bool) (held left rest : List ℕ) (old now next : LinkState) → Goes uid was held old now
    → talk was held ≡ told (data_line ∷ []) (talk asked rest) → left ≡ rest → Says data_line now next (Ok tt) → Goes uid asked left old next
goes-data uid was asked held left rest old now next so says is said = record {
  read = so.read;
  lines = so.lines ++ data_line ∷ [];
  carried = rw (sym (line-said uid so.lines data_line)) (carried-wrote old now next so.read (opening uid ++ concat so.lines) data_line so.carried said.0);
  still = said.1 ∙ so.still;
  goes =
      so.goes ∙ ap (λ (t : Talk). told so.lines t) says ∙ told-twice so.lines data_line (talk asked rest)
      ∙ ap (λ (l : List ℕ). told (so.lines ++ data_line ∷ []) (talk asked l)) (sym is);
}

-- a line that should be said was written in part
pub unsaid : (uid : ℕ) (was : Bool) (held line : List ℕ) (t : Talk) (old now next : LinkState) (why : OpenRefused) → Goes uid was held old now
    → talk was held ≡ told (line ∷ []) t → Says line now next (Err why) → Opens uid old next (Err why)
unsaid uid was held line t old now next end.WriteFault so says said =
    let how : talk false so.read ≡ told (so.lines ++ line ∷ []) t = so.goes ∙ ap (λ (it : Talk). told so.lines it) says ∙ told-twice so.lines line t in
    let front = said.0 in
    let first : IsFront ((opening uid ++ concat so.lines) ++ front) ((opening uid ++ concat so.lines) ++ line) = front-behind (opening uid ++ concat so.lines) front line said.1 in
    record {
      read = so.read;
      wrote = (opening uid ++ concat so.lines) ++ front;
      carried = carried-wrote old now next so.read (opening uid ++ concat so.lines) front so.carried said.2;
      ends = (
        front-trans ((opening uid ++ concat so.lines) ++ front) (opening uid ++ concat (so.lines ++ line ∷ [])) (greeting uid so.read)
            (subst (λ (l : List ℕ). IsFront ((opening uid ++ concat so.lines) ++ front) l) (line-said uid so.lines line) first)
            (front-said uid so.read (so.lines ++ line ∷ []) t how),
        rose-after old.faults now.faults next.faults so.still said.3,
      );
    }
unsaid uid was held line t old now next _ so says said = absurd said

-- BEGIN should be said, and was written in part
pub unbegun-said : (uid : ℕ) (was : Bool) (held guid rest : List ℕ) (old now next : LinkState) (why : OpenRefused) → Goes uid was held old now
    → talk was held ≡ record { said = begin_line ∷ []; end = opened guid rest } → Says begin_line now next (Err why) → Opens uid old next (Err why)
unbegun-said uid was held guid rest old now next why so says said = unsaid uid was held begin_line (silent (opened guid rest)) old now next why so says said

-- BEGIN was said
pub begins : (uid : ℕ) (was : Bool) (held left guid rest : List ℕ) (old now next : LinkState) → Goes uid was held old now
    → talk was held ≡ record { said = begin_line ∷ []; end = opened guid rest } → left ≡ rest → Says begin_line now next (Ok tt)
    → Opens uid old next (Ok left)
begins uid was held left guid rest old now next so says is said =
    let last : Talk = record { said = []; end = opened guid rest } in
    let how : talk false so.read ≡ told (so.lines ++ begin_line ∷ []) last = so.goes ∙ ap (λ (it : Talk). told so.lines it) says ∙ told-twice so.lines begin_line last in
    record {
      read = so.read;
      wrote = (opening uid ++ concat so.lines) ++ begin_line;
      carried = carried-wrote old now next so.read (opening uid ++ concat so.lines) begin_line so.carried said.0;
      ends = (
        (guid, ap (λ (t : Talk). t.end) how ∙ ap (λ (l : List ℕ). opened guid l) (sym is)),
        line-said uid so.lines begin_line ∙ all-said uid so.read (so.lines ++ begin_line ∷ []) last how refl,
        said.1 ∙ so.still,
      );
    }

-- the bus refused
pub refuses : (uid : ℕ) (was : Bool) (held : List ℕ) (old now : LinkState) (why : ClientFault) → Goes uid was held old now → talk was held ≡ silent (refused why)
    → Opens uid old now (Err (end.Handshake why))
refuses uid was held old now why so says =
    let how : talk false so.read ≡ told so.lines (silent (refused why)) = so.goes ∙ ap (λ (t : Talk). told so.lines t) says in
    record {
      read = so.read;
      wrote = opening uid ++ concat so.lines;
      carried = so.carried;
      ends = (inl (ap (λ (t : Talk). t.end) how), all-said uid so.read so.lines (silent (refused why)) how refl, so.still);
    }

-- the messages have begun
pub turned-begun : (uid : ℕ) (asked : Bool) (held rest : List ℕ) (old now : LinkState) (begun : Bool) → begun ≡ true → Turned uid asked held old now begun → rest ≡ held
    → Opens uid old now (Ok rest)
turned-begun uid asked held rest old now begun is_so it is =
    let whole : Turned uid asked held old now true = subst (λ (b : Bool). Turned uid asked held old now b) is_so it in
    subst (λ (l : List ℕ). Opens uid old now (Ok l)) (sym is) whole

-- they haven't
pub turned-on : (uid : ℕ) (asked : Bool) (held : List ℕ) (old now : LinkState) (begun : Bool) → begun ≡ false → Turned uid asked held old now begun → Goes uid asked held old now
turned-on uid asked held old now begun not it = subst (λ (b : Bool). Turned uid asked held old now b) not it

-- the link of a talk that goes on has dialled
pub goes-dialled : (uid : ℕ) (asked : Bool) (held : List ℕ) (old now : LinkState) → Goes uid asked held old now → IsTrue (is_some old.dialled) → IsTrue (is_some now.dialled)
goes-dialled uid asked held old now so is = still-dialled old.dialled now.dialled so.carried.dialled is

-- ---- one reading

-- nothing was read, and nothing is left
pub holds-end : (has left piece : List ℕ) (old new : LinkState) (count : ℕ) → ReadsPiece {E = Failed} piece old new (Ok count) → count ≡ 0
    → HoldsMore has left old new (Err (end.Handshake fault.EndedEarly))
holds-end has left piece old new count got none = (subst (λ (n : ℕ). Carried old new (take n piece) []) none got.1, got.3 none, got.2)
