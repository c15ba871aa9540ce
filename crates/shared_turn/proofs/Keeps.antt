-- Each step on the table keeps its rule.
use Rattle.std.proofs.Common.{◌≡◌, ◌⊎◌, ℕ, zero, suc, ◌+◌, ◌%◌, ◌^◌, ◌<◌, ◌≢◌, eqb, Bool, true, false, List, [], ◌∷◌, ◌++◌, length, get_or, set, Option, Some, None, refl, sym, ap, ◌∙◌, subst, ⊎_elim, inl, inr, arith, length-append, append-nil, eq-eqb, ne_eqb}
use mathlib.Core.Logic.{dite}
use mathlib.Core.Option.{none, some, some-injective, some-ne-none}
use mathlib.Core.Option as maybe
use native.Mathlib.Decide.{ℕ_discrete}
use lib.ListN.{get_elem?}
use lib.Seq.{set-get_or}
use prog.Atomic.{either}
use Rattle.atomic_table.specs.Table.{State, Me, Step, step, keeps, takes, gives, stepped, rest, Allows, Splits, Joins, opening}
use Rattle.atomic_table.proofs.Lists.{at_set, set_else, set_again, at_longer, at_snoc}
use Rattle.std.proofs.lemmas.Bool.{cases_Bool}
use Rattle.std.proofs.lemmas.List.{set_comm}
use Rattle.shared_turn.specs.declared.known.Known.{Known}
use Rattle.shared_turn.specs.declared.share.Share.{Share}
use Rattle.shared_turn.specs.Places.{StartsWith, longer, ArePlaces, IsIn}
use Rattle.shared_turn.specs.Seats.{IsWithoutTicket, HasSlot}
use Rattle.shared_turn.specs.Shares.{whole, together, noted_in, IsFirst, LeavesOut}
use Rattle.shared_turn.specs.Rule.{first_known, giving, noted, gathered, one_if, spent, tickets, all_noted, AreApart, IsOwned, IsTrue, Knows, IsHome, IsOut, Kept}
use Rattle.shared_turn.specs.Steps.{drawn, handed, compared, entered, counted}
use Rattle.shared_turn.proofs.Histories.{starts-self, starts-more, longer-starts, longer-is, length-longer, places-below, places-push, places-merged, in-push, in-merged, in-more, in-last, merge-in, in-places, all-are-places}
use Rattle.shared_turn.proofs.Owning.{first-without, any-without, noted-without, leaves-without, leaves-other, first-together, any-together, leaves-together, leaves-third, noted-set, noted-push, shares-set, owned-set, owned-push, alone}
use Rattle.shared_turn.proofs.Seating.{set-at, at-one, some-is, none-some, false-true, apart-turned, apart-set, tickets-set, tickets-push, knows-set, true-of, ticket-of, turn-of, place-of, slot-stays}

module _ {S B E : Type 0} (meaning : S → B → ℕ → List E → Type 0) (from : B) (earlier : ℕ) where
  abbrev K : Type 0
  K = Known B E

  abbrev M : Type 0
  M = Me (Option S) K

  abbrev Rule : State (Option S) K → Type 0
  Rule = Kept meaning from earlier

  -- what there is at the start
  pub opens : (value : S) (events : List E) (count : ℕ) → count ≡ earlier + length events → meaning value from earlier events
      → Rule (opening (count ∷ 0 ∷ 0 ∷ []) (Some value ∷ []) (first_known from earlier events))
  opens value events count is stands = record {
    log = events;
    drawn = 0;
    served = 0;
    words = ap (λ (n : ℕ). n ∷ 0 ∷ 0 ∷ []) is;
    few = omega arith;
    knows = one;
    apart = λ seat other a b differ at there. absurd (differ (first seat a at ∙ sym (first other b there)));
    waiting = omega arith;
    shares = λ seat known at. subst (λ (k : K). LeavesOut 0 k.share) (same seat known at) refl;
    owned = λ place low. record { owner = 0; known = first_known from earlier events; there = refl; own = in-places 0 (length events) place (omega arith) (omega (arith, low)) };
    slot = inl record { value = value; home = refl; stands = stands; free = λ seat known at. sym (ap (λ (k : K). k.has_turn) (same seat known at)) };
  }
    where
      first : (seat : ℕ) (known : K) → get_elem? (first_known from earlier events ∷ []) seat ≡ some known → seat ≡ 0
      first zero known at = refl
      first (suc seat) known at = absurd (some-ne-none known (sym at))

      same : (seat : ℕ) (known : K) → get_elem? (first_known from earlier events ∷ []) seat ≡ some known → first_known from earlier events ≡ known
      same zero known at = some-injective _ _ at
      same (suc seat) known at = absurd (some-ne-none known (sym at))

      mine : IsTrue meaning from earlier events 0 0 (first_known from earlier events)
      mine = record {
        start = refl;
        before = refl;
        seen = starts-self events;
        met = (events, refl);
        met_start = refl;
        met_before = refl;
        own = all-are-places (length events);
        share = tt;
        ticket = λ ticket has. absurd (none-some ticket has);
        turn = λ has. absurd (false-true has);
      }

      one : (seat : ℕ) (known : K) → get_elem? (first_known from earlier events ∷ []) seat ≡ some known → Knows meaning from earlier events 0 0 known
      one seat known at = subst (Knows meaning from earlier events 0 0) (same seat known at) (inr mine)

  -- a load that changes no seat changes nothing
  unmoved : (s : State (Option S) K) (r : Rule s) (i id : ℕ) (carried : List (ℕ × Option S)) (v : K) → get_elem? s.views id ≡ some v → Rule (stepped s i (get_or s.words i 0) id carried v keeps)
  unmoved s r i id carried v at =
      subst (λ (z : List ℕ × List K). Rule record { words = z.0; homes = s.homes; views = z.1 }) (λ k. (sym (set-get_or s.words i 0) k, sym (set_again s.views id v at) k)) r

  -- the seat draws a ticket
  pub draws : (slots id : ℕ) (me : M) (next : ℕ) → IsWithoutTicket me.0 → next < 18446744073709551615
      → Allows Rule slots id me 1 (λ n. either (eqb n next) (next + 1) n) (drawn (step slots 1 next (next + 1) none) me)
  draws slots id me next without few s r deep at _ =
      let n : ℕ = get_or s.words 1 0 in
      let found : n ≡ r.drawn = ap (λ (ws : List ℕ). get_or ws 1 0) r.words in
      let known = true-of meaning from earlier r.log r.drawn r.served me.0 (r.knows id me.0 at) without.start.0 without.start.1 in
      let w : K = record me.0 { ticket = Some n } in
      let count = tickets-set s.views id me.0 w at in
      let none-yet : one_if me.0.ticket ≡ 0 = ap one_if without.ticket in
      let waiting = r.waiting in
      dite (ℕ_discrete n next)
      (λ hit. (
        w,
        keeps,
        tt,
        subst (λ (b : Bool). Rule (stepped s 1 (either b (next + 1) n) id me.1 w keeps)) (sym (eq-eqb n next hit))
            record {
              log = r.log;
              drawn = next + 1;
              served = r.served;
              words = ap (λ (ws : List ℕ). set ws 1 (next + 1)) r.words;
              few = omega (arith, few);
              knows = knows-set meaning from earlier r.log (next + 1) r.served s.views id w
                  (λ seat u other there. more next (sym found ∙ hit) r.served r.log u (r.knows seat u there))
                  (inr record {
                    start = known.start;
                    before = known.before;
                    seen = known.seen;
                    met = known.met;
                    met_start = known.met_start;
                    met_before = known.met_before;
                    own = known.own;
                    share = known.share;
                    ticket = λ ticket is. let same : n ≡ ticket = some-is n ticket is in (omega (arith, same, found, waiting), omega (arith, same, hit));
                    turn = λ has. absurd (false-true (sym without.turn ∙ has));
                  });
              apart = apart-set s.views id w r.apart (λ seat u other there. record {
                places = (r.apart id seat me.0 u (λ same. other (sym same)) at there).places;
                tickets = λ ticket mine theirs. let same : n ≡ ticket = some-is n ticket mine in
                    let low = ticket-of meaning from earlier r.log r.drawn r.served u (r.knows seat u there) ticket theirs in absurd (omega (arith, same, found, low.1));
                firsts = (r.apart id seat me.0 u (λ same. other (sym same)) at there).firsts;
              });
              waiting = omega (arith, count, none-yet, waiting, found, hit);
              shares = shares-set s.views id me.0 w at refl r.shares;
              owned = λ place low. owned-set s.views id me.0 w at (λ _ mine. mine) place (r.owned place low);
              slot = slot-stays meaning from earlier r.log s.homes s.views id me.0 w at without.turn without.turn r.slot;
            },
        record { hit = λ _. refl; miss = λ not. absurd (not hit); slots = refl },
      ))
      (λ miss. (
        me.0,
        keeps,
        tt,
        subst (λ (b : Bool). Rule (stepped s 1 (either b (next + 1) n) id me.1 me.0 keeps)) (sym (ne_eqb n next miss)) (unmoved s r 1 id me.1 me.0 at),
        record { hit = λ is. absurd (miss is); miss = λ _. refl; slots = refl },
      ))
    where
      more : (next : ℕ) → r.drawn ≡ next → (served : ℕ) (log : List E) (u : K) → Knows meaning from earlier log r.drawn served u → Knows meaning from earlier log (next + 1) served u
      more next is served log u knows = ⊎_elim (λ (none : u ≡ spent). inl none) (λ (known : IsTrue meaning from earlier log r.drawn served u). inr record {
        start = known.start;
        before = known.before;
        seen = known.seen;
        met = known.met;
        met_start = known.met_start;
        met_before = known.met_before;
        own = known.own;
        share = known.share;
        ticket = λ ticket has. let bounds = known.ticket ticket has in (bounds.0, omega (arith, bounds.1, is));
        turn = known.turn;
      }) knows

  -- the value is in its slot if the seat whose ticket is served doesn't have the turn
  is-home : (s : State (Option S) K) (r : Rule s) (id : ℕ) (v : K) → get_elem? s.views id ≡ some v → v.ticket ≡ Some r.served → v.has_turn ≡ false → IsHome meaning from earlier r.log s.homes s.views
  is-home s r id v at ticket free = ⊎_elim (λ (home : IsHome meaning from earlier r.log s.homes s.views). home)
      (λ (out : IsOut s.homes s.views).
      let turn = turn-of meaning from earlier r.log r.drawn r.served out.known (r.knows out.holder out.known out.there) out.turn in
      let apart = r.apart id out.holder v out.known
      (λ same. false-true (sym free ∙ (ap (λ (k : K). k.has_turn) (at-one s.views id v out.known at (subst (λ (n : ℕ). get_elem? s.views n ≡ some out.known) (sym same) out.there)) ∙ out.turn)))
      at out.there in
      absurd (apart.tickets r.served ticket turn.0))
      r.slot

  -- the slot is empty if a seat has the turn
  is-out : (s : State (Option S) K) (r : Rule s) (id : ℕ) (v : K) → get_elem? s.views id ≡ some v → v.has_turn ≡ true → s.homes ≡ none ∷ []
  is-out s r id v at turn = ⊎_elim (λ (home : IsHome meaning from earlier r.log s.homes s.views). absurd (false-true (sym (home.free id v at) ∙ turn))) (λ (out : IsOut s.homes s.views). out.empty) r.slot

  -- the turn has come, or not yet
  pub enters : (slots id : ℕ) (me : M) (ticket : ℕ) → ((start : B) × (me.0.start ≡ Some start)) → me.0.ticket ≡ Some ticket → me.0.has_turn ≡ false
      → Allows Rule slots id me 2 (λ n. n) (entered meaning (step slots 2 0 0 none) me)
  enters slots id me ticket starts has free s r deep at _ =
      let n : ℕ = get_or s.words 2 0 in
      let found : n ≡ r.served = ap (λ (ws : List ℕ). get_or ws 2 0) r.words in
      let known = true-of meaning from earlier r.log r.drawn r.served me.0 (r.knows id me.0 at) starts.0 starts.1 in
      dite (ℕ_discrete n ticket)
      (λ hit.
      let served : me.0.ticket ≡ Some r.served = has ∙ (λ i. Some ((sym hit ∙ found) i)) in
      let home = is-home s r id me.0 at served free in
      let between : List E = known.seen.0 in
      let w : K = record me.0 { seen = me.0.seen ++ between; has_turn = true } in
      let same : one_if w.ticket ≡ one_if me.0.ticket = refl in
      let count = tickets-set s.views id me.0 w at in
      let waiting = r.waiting in (
        w,
        takes 0 (Some home.value),
        ap (λ (hs : List (maybe.Option (Option S))). get_elem? hs 0) home.home,
        subst (λ (ws : List ℕ). Rule record { words = ws; homes = set s.homes 0 none; views = set s.views id w }) (sym (set-get_or s.words 2 0))
            record {
              log = r.log;
              drawn = r.drawn;
              served = r.served;
              words = r.words;
              few = r.few;
              knows = knows-set meaning from earlier r.log r.drawn r.served s.views id w (λ seat u other there. r.knows seat u there) (inr record {
                start = known.start;
                before = known.before;
                seen = ([], known.seen.1 ∙ sym (append-nil (me.0.seen ++ between)));
                met = starts-more me.0.seen me.0.met between known.met;
                met_start = known.met_start;
                met_before = known.met_before;
                own = places-below 0 (length me.0.seen) (length (me.0.seen ++ between)) me.0.own known.own (let long = length-append me.0.seen between in omega (arith, long));
                share = known.share;
                ticket = known.ticket;
                turn = λ _. (served, sym known.seen.1);
              });
              apart = apart-set s.views id w r.apart (λ seat u other there. let old = r.apart id seat me.0 u (λ is. other (sym is)) at there in record { places = old.places; tickets = old.tickets; firsts = old.firsts });
              waiting = omega (arith, count, same, waiting);
              shares = shares-set s.views id me.0 w at refl r.shares;
              owned = λ place low. owned-set s.views id me.0 w at (λ _ mine. mine) place (r.owned place low);
              slot = inr record { empty = ap (λ (hs : List (maybe.Option (Option S))). set hs 0 none) home.home; holder = id; known = w; there = set-at s.views id me.0 w at; turn = refl };
            },
        record {
          hit = λ _. record {
            value = home.value;
            between = between;
            is = refl;
            stands = λ start is. subst (λ (z : B × ℕ × List E). meaning home.value z.0 z.1 z.2)
                (λ i. (some-is from start (sym known.start ∙ is) i, sym known.before i, known.seen.1 i)) home.stands;
            alone = alone meaning from earlier r.log r.drawn r.served s.views id me.0 r.knows r.apart at (r.shares id me.0 at) r.owned known.own between known.seen.1;
          };
          miss = λ not. absurd (not (has ∙ (λ i. Some (sym hit i))));
        },
      ))
      (λ miss. (
        me.0,
        keeps,
        tt,
        unmoved s r 2 id me.1 me.0 at,
        record { hit = λ is. absurd (miss (some-is n ticket (sym is ∙ has))); miss = λ _. refl },
      ))

  -- one event is counted by the seat that has the turn
  pub counts : (newest : S → List E) (slots id : ℕ) (me : M) (value : S) (event : E) → ((start : B) × (me.0.start ≡ Some start)) → me.0.has_turn ≡ true → me.1 ≡ (0, Some value) ∷ []
      → newest value ≡ event ∷ [] → me.0.before + length me.0.seen < 18446744073709551615
      → Allows Rule slots id me 0 (λ n. (n + 1) % 2 ^ 64) (counted newest (step slots 0 1 0 none) me)
  counts newest slots id me value event starts turn slot is few s r deep at _ =
      let n : ℕ = get_or s.words 0 0 in
      let found : n ≡ earlier + length r.log = ap (λ (ws : List ℕ). get_or ws 0 0) r.words in
      let known = true-of meaning from earlier r.log r.drawn r.served me.0 (r.knows id me.0 at) starts.0 starts.1 in
      let served = known.turn turn in
      let seen : length me.0.seen ≡ length r.log = ap length served.1 in
      let begun = known.before in
      let log' : List E = r.log ++ newest value in
      let w : K = record me.0 { seen = me.0.seen ++ newest value; own = me.0.own ++ length me.0.seen ∷ [] } in
      let one : length (newest value) ≡ 1 = ap length is in
      let long : length log' ≡ length r.log + 1 = length-append r.log (newest value) ∙ ap (λ (k : ℕ). length r.log + k) one in
      let longer-seen : length (me.0.seen ++ newest value) ≡ length me.0.seen + 1 = length-append me.0.seen (newest value) ∙ ap (λ (k : ℕ). length me.0.seen + k) one in
      let next : (n + 1) % 2 ^ 64 ≡ earlier + length log' = omega (arith, found, long, seen, begun, few) in
      let count = tickets-set s.views id me.0 w at in
      let waiting = r.waiting in (
        w,
        keeps,
        tt,
        record {
          log = log';
          drawn = r.drawn;
          served = r.served;
          words = ap (λ (ws : List ℕ). set ws 0 ((n + 1) % 2 ^ 64)) r.words ∙ ap (λ (k : ℕ). k ∷ r.drawn ∷ r.served ∷ []) next;
          few = r.few;
          knows = knows-set meaning from earlier log' r.drawn r.served s.views id w
              (λ seat u other there. later (newest value) u (r.knows seat u there) (λ has.
              (r.apart id seat me.0 u (λ same. other (sym same)) at there).tickets r.served served.0 (turn-of meaning from earlier r.log r.drawn r.served u (r.knows seat u there) has).0))
              (inr record {
                start = known.start;
                before = known.before;
                seen = ([], ap (λ (l : List E). l ++ newest value) (sym served.1) ∙ sym (append-nil (me.0.seen ++ newest value)));
                met = starts-more me.0.seen me.0.met (newest value) known.met;
                met_start = known.met_start;
                met_before = known.met_before;
                own = subst (λ (k : ℕ). ArePlaces 0 k (me.0.own ++ length me.0.seen ∷ [])) (sym longer-seen) (places-push 0 (length me.0.seen) me.0.own known.own);
                share = known.share;
                ticket = known.ticket;
                turn = λ _. (served.0, ap (λ (l : List E). l ++ newest value) served.1);
              });
          apart = apart-set s.views id w r.apart (λ seat u other there. let old = r.apart id seat me.0 u (λ same. other (sym same)) at there in record {
            places = λ place mine theirs. ⊎_elim (λ (before : IsIn place me.0.own). old.places place before theirs)
                (λ (last : place ≡ length me.0.seen). let low = place-of meaning from earlier r.log r.drawn r.served u (r.knows seat u there) place theirs in absurd (omega (arith, low, last, seen)))
                (in-push me.0.own (length me.0.seen) place mine);
            tickets = old.tickets;
            firsts = old.firsts;
          });
          waiting = omega (arith, count, waiting);
          shares = shares-set s.views id me.0 w at refl r.shares;
          owned = λ place low. dite (ℕ_discrete place (length me.0.seen))
              (λ last. record { owner = id; known = w; there = set-at s.views id me.0 w at; own = subst (λ (p : ℕ). IsIn p w.own) (sym last) (in-last me.0.own (length me.0.seen)) })
              (λ differ. owned-set s.views id me.0 w at (λ p mine. in-more me.0.own (length me.0.seen ∷ []) p mine) place (r.owned place (omega (arith, low, long, seen, differ))));
          slot = inr record { empty = is-out s r id me.0 at turn; holder = id; known = w; there = set-at s.views id me.0 w at; turn = turn };
        },
        (λ other has. ap (λ (x : S). ((record me.0 { seen = me.0.seen ++ newest x; own = me.0.own ++ length me.0.seen ∷ [] }), me.1)) (same-value value other (sym slot ∙ has))),
      )
    where
      value-of : S → List (ℕ × Option S) → S
      value-of d ((k, Some x) ∷ more) = x
      value-of d ((k, None) ∷ more) = d
      value-of d [] = d

      same-value : (value other : S) → ◌≡◌ {A = List (ℕ × Option S)} ((0, Some value) ∷ []) ((0, Some other) ∷ []) → value ≡ other
      same-value value other e = ap (value-of value) e

      later : (more : List E) (u : K) → Knows meaning from earlier r.log r.drawn r.served u → (u.has_turn ≡ true → ⊥) → Knows meaning from earlier (r.log ++ more) r.drawn r.served u
      later more u knows free = ⊎_elim (λ (none : u ≡ spent). inl none) (λ (known : IsTrue meaning from earlier r.log r.drawn r.served u). inr record {
        start = known.start;
        before = known.before;
        seen = starts-more r.log u.seen more known.seen;
        met = known.met;
        met_start = known.met_start;
        met_before = known.met_before;
        own = known.own;
        share = known.share;
        ticket = known.ticket;
        turn = λ has. absurd (free has);
      }) knows

  -- the turn is passed on, with the value back in its slot
  pub hands : (slots id : ℕ) (me : M) (value : S) → HasSlot meaning value me → Allows Rule slots id me 2 (λ n. (n + 1) % 2 ^ 64) (handed (step slots 2 1 0 none) me)
  hands slots id me value has s r deep at _ =
      let n : ℕ = get_or s.words 2 0 in
      let found : n ≡ r.served = ap (λ (ws : List ℕ). get_or ws 2 0) r.words in
      let known = true-of meaning from earlier r.log r.drawn r.served me.0 (r.knows id me.0 at) has.start.0 has.start.1 in
      let served = known.turn has.turn in
      let bounds = known.ticket r.served served.0 in
      let few = r.few in
      let next : (n + 1) % 2 ^ 64 ≡ r.served + 1 = omega (arith, found, bounds.1, few) in
      let w : K = record me.0 { ticket = None; has_turn = false } in
      let count = tickets-set s.views id me.0 w at in
      let mine : one_if me.0.ticket ≡ 1 = ap one_if served.0 in
      let waiting = r.waiting in
      let back : List (maybe.Option (Option S)) = some (Some value) ∷ [] in
      let homes : Rattle.atomic_table.specs.Table.put_back s.homes me.1 ≡ back =
      ap (λ (c : List (ℕ × Option S)). Rattle.atomic_table.specs.Table.put_back s.homes c) has.slot ∙ ap (λ (hs : List (maybe.Option (Option S))). set hs 0 (some (Some value))) (is-out s r id me.0 at has.turn) in (
        w,
        gives,
        tt,
        record {
          log = r.log;
          drawn = r.drawn;
          served = r.served + 1;
          words = ap (λ (ws : List ℕ). set ws 2 ((n + 1) % 2 ^ 64)) r.words ∙ ap (λ (k : ℕ). (earlier + length r.log) ∷ r.drawn ∷ k ∷ []) next;
          few = r.few;
          knows = knows-set meaning from earlier r.log r.drawn (r.served + 1) s.views id w
              (λ seat u other there. later u (r.knows seat u there) ((r.apart id seat me.0 u (λ same. other (sym same)) at there).tickets r.served served.0))
              (inr record {
                start = known.start;
                before = known.before;
                seen = known.seen;
                met = known.met;
                met_start = known.met_start;
                met_before = known.met_before;
                own = known.own;
                share = known.share;
                ticket = λ ticket is. absurd (none-some ticket is);
                turn = λ is. absurd (false-true is);
              });
          apart = apart-set s.views id w r.apart (λ seat u other there. let old = r.apart id seat me.0 u (λ same. other (sym same)) at there in record { places = old.places; tickets = λ ticket is. absurd (none-some ticket is); firsts = old.firsts });
          waiting = omega (arith, count, mine, waiting);
          shares = shares-set s.views id me.0 w at refl r.shares;
          owned = λ place low. owned-set s.views id me.0 w at (λ _ mine'. mine') place (r.owned place low);
          slot = inl record {
            value = value;
            home = homes;
            stands = subst (λ (z : ℕ × List E). meaning value from z.0 z.1) (λ i. (known.before i, served.1 i)) (has.stands from known.start);
            free = λ seat u there. ⊎_elim (λ (x : (seat ≡ id) × (w ≡ u)). sym (ap (λ (k : K). k.has_turn) x.1))
                (λ (x : (seat ≢ id) × (get_elem? s.views seat ≡ some u)). not-true u.has_turn (λ has-it.
                (r.apart id seat me.0 u (λ same. x.0 (sym same)) at x.1).tickets r.served served.0 (turn-of meaning from earlier r.log r.drawn r.served u (r.knows seat u x.1) has-it).0))
                (at_set s.views id seat w u there);
          };
        },
        refl,
      )
    where
      not-true : (b : Bool) → (b ≡ true → ⊥) → b ≡ false
      not-true b not = ⊎_elim (λ (is : b ≡ true). absurd (not is)) (λ (is : b ≡ false). is) (cases_Bool b)

      later : (u : K) → Knows meaning from earlier r.log r.drawn r.served u → (u.ticket ≡ Some r.served → ⊥) → Knows meaning from earlier r.log r.drawn (r.served + 1) u
      later u knows apart = ⊎_elim (λ (none : u ≡ spent). inl none) (λ (known : IsTrue meaning from earlier r.log r.drawn r.served u). inr record {
        start = known.start;
        before = known.before;
        seen = known.seen;
        met = known.met;
        met_start = known.met_start;
        met_before = known.met_before;
        own = known.own;
        share = known.share;
        ticket = λ ticket is. let old = known.ticket ticket is in (dite (ℕ_discrete r.served ticket) (λ same. absurd (apart (is ∙ (λ i. Some (sym same i))))) (λ differ. omega (arith, old.0, differ)), old.1);
        turn = λ is. absurd (apart (known.turn is).0);
      }) knows

  -- a new seat that has seen what another has
  pub notes : (id : ℕ) (v : K) → ((start : B) × (v.start ≡ Some start)) → v.has_turn ≡ false → IsFirst v.share → Splits Rule id v (giving v) (noted v)
  notes id v starts free is-first s r at =
      let w : K = noted v in
      let u' : K = giving v in
      let views : List K = set s.views id u' in
      let known = true-of meaning from earlier r.log r.drawn r.served v (r.knows id v at) starts.0 starts.1 in
      let knows : (seat : ℕ) (u : K) → get_elem? views seat ≡ some u → Knows meaning from earlier r.log r.drawn r.served u =
      knows-set meaning from earlier r.log r.drawn r.served s.views id u' (λ seat u other there. r.knows seat u there) (inr record {
        start = known.start;
        before = known.before;
        seen = known.seen;
        met = known.met;
        met_start = known.met_start;
        met_before = known.met_before;
        own = known.own;
        share = any-without 1 v.share is-first;
        ticket = known.ticket;
        turn = known.turn;
      }) in
      let apart : (seat other : ℕ) (a b : K) → (seat ≡ other → ⊥) → get_elem? views seat ≡ some a → get_elem? views other ≡ some b → AreApart a b =
      apart-set s.views id u' r.apart (λ seat u other there. let old = r.apart id seat v u (λ same. other (sym same)) at there in record {
        places = old.places;
        tickets = old.tickets;
        firsts = λ _ theirs. old.firsts is-first theirs;
      }) in
      let others : all_noted (views ++ w ∷ []) ≡ all_noted s.views + 1 =
      (let all = noted-set s.views id v u' at in let same = noted-without 1 v.share is-first in let push = noted-push views w in omega (arith, all, same, push)) in
      record {
        log = r.log;
        drawn = r.drawn;
        served = r.served;
        words = r.words;
        few = r.few;
        knows = λ seat u there. ⊎_elim (λ (old : get_elem? views seat ≡ some u). knows seat u old) (λ (same : w ≡ u). subst (Knows meaning from earlier r.log r.drawn r.served) same (inr record {
          start = known.start;
          before = known.before;
          seen = known.seen;
          met = (v.seen, refl);
          met_start = known.start;
          met_before = known.before;
          own = omega arith;
          share = omega arith;
          ticket = λ ticket is. absurd (none-some ticket is);
          turn = λ is. absurd (false-true is);
        })) (at_snoc views w u seat there);
        apart = λ seat other a b differ at' there. ⊎_elim
            (λ (x : get_elem? views seat ≡ some a). ⊎_elim (λ (y : get_elem? views other ≡ some b). apart seat other a b differ x y) (λ (y : w ≡ b). subst (λ (k : K). AreApart a k) y (apart-turned w a (new a))) (at_snoc views w b other there))
            (λ (x : w ≡ a). subst (λ (k : K). AreApart k b) x (new b))
            (at_snoc views w a seat at');
        waiting = let all = tickets-set s.views id v u' at in let count = tickets-push views w in let waiting = r.waiting in omega (arith, all, count, waiting);
        shares = λ seat u there. subst (λ (n : ℕ). LeavesOut n u.share) (sym others) (⊎_elim
            (λ (old : get_elem? views seat ≡ some u). ⊎_elim (λ (x : (seat ≡ id) × (u' ≡ u)). subst (λ (k : K). LeavesOut (all_noted s.views + 1) k.share) x.1 (leaves-without (all_noted s.views) 1 v.share is-first (r.shares id v at)))
            (λ (x : (seat ≢ id) × (get_elem? s.views seat ≡ some u)). leaves-other (all_noted s.views + 1) u.share (λ theirs. (r.apart id seat v u (λ same. x.0 (sym same)) at x.1).firsts is-first theirs))
            (at_set s.views id seat u' u old))
            (λ (same : w ≡ u). subst (λ (k : K). LeavesOut (all_noted s.views + 1) k.share) same tt)
            (at_snoc views w u seat there));
        owned = λ place low. owned-push views w place (owned-set s.views id v u' at (λ _ mine. mine) place (r.owned place low));
        slot = ⊎_elim
            (λ (home : IsHome meaning from earlier r.log s.homes views). inl record {
              value = home.value;
              home = home.home;
              stands = home.stands;
              free = λ seat u there. ⊎_elim (λ (old : get_elem? views seat ≡ some u). home.free seat u old) (λ (same : w ≡ u). sym (ap (λ (k : K). k.has_turn) same)) (at_snoc views w u seat there);
            })
            (λ (out : IsOut s.homes views). inr record { empty = out.empty; holder = out.holder; known = out.known; there = at_longer views (w ∷ []) out.holder out.known out.there; turn = out.turn })
            (slot-stays meaning from earlier r.log s.homes s.views id v u' at free free r.slot);
      }
    where
      new : (u : K) → AreApart (noted v) u
      new u = record { places = λ place mine theirs. mine; tickets = λ ticket is. absurd (none-some ticket is); firsts = λ mine theirs. mine }

  -- what stays true when a seat was joined to another one
  record Rests (s : State (Option S) K) (r : Rule s) (views : List K) : Type 0 where
    pub knows : (seat : ℕ) (known : K) → get_elem? views seat ≡ some known → Knows meaning from earlier r.log r.drawn r.served known
    pub apart : (seat other : ℕ) (known others : K) → (seat ≡ other → ⊥) → get_elem? views seat ≡ some known → get_elem? views other ≡ some others → AreApart known others
    pub waiting : r.served + tickets views ≡ r.drawn
    pub slot : IsHome meaning from earlier r.log s.homes views ⊎ IsOut s.homes views

  -- a seat that was joined to another one knows nothing
  spends : (s : State (Option S) K) (r : Rule s) (other : ℕ) (w : K) → get_elem? s.views other ≡ some w → w.ticket ≡ None → w.has_turn ≡ false → Rests s r (set s.views other spent)
  spends s r other w at none-yet free =
      let count = tickets-set s.views other w spent at in
      let mine : one_if w.ticket ≡ 0 = ap one_if none-yet in
      let waiting = r.waiting in record {
        knows = knows-set meaning from earlier r.log r.drawn r.served s.views other spent (λ seat u differ there. r.knows seat u there) (inl refl);
        apart = apart-set s.views other spent r.apart (λ seat u differ there. record { places = λ place mine theirs. mine; tickets = λ ticket mine theirs. absurd (none-some ticket mine); firsts = λ mine theirs. mine });
        waiting = omega (arith, count, mine, waiting);
        slot = slot-stays meaning from earlier r.log s.homes s.views other w spent at free refl r.slot;
      }

  -- a seat takes over what another knows
  pub joins : (id : ℕ) (v : K) (other : ℕ) (w : K) → ((start : B) × (v.start ≡ Some start)) → ((start : B) × (w.start ≡ Some start)) → v.ticket ≡ None → v.has_turn ≡ false → w.ticket ≡ None → w.has_turn ≡ false
      → Joins Rule id v other w (gathered v w) spent
  joins id v other w starts starts' no-ticket free no-ticket' free' s r at differ there =
      let both : K = gathered v w in
      let there' : get_elem? s.views other ≡ some w = sym (set_else s.views id other both differ) ∙ there in
      let known = true-of meaning from earlier r.log r.drawn r.served v (r.knows id v at) starts.0 starts.1 in
      let known' = true-of meaning from earlier r.log r.drawn r.served w (r.knows other w there') starts'.0 starts'.1 in
      let apart = r.apart id other v w (λ same. differ (sym same)) at there' in
      let views : List K = set s.views other spent in
      let rule = spends s r other w there' no-ticket' free' in
      let at' : get_elem? views id ≡ some v = set_else s.views other id spent (λ same. differ (sym same)) ∙ at in
      let count = tickets-set views id v both at' in
      let long = length-longer v.seen w.seen in
      let waiting = rule.waiting in
      let left = noted-set s.views other w spent there' in
      let more = noted-set views id v both at' in
      let same : (all_noted (set views id both) + noted_in v.share) + noted_in w.share ≡ all_noted s.views + noted_in (together v.share w.share) = omega (arith, left, more) in
      let away : (seat : ℕ) (u : K) → seat ≢ id → get_elem? views seat ≡ some u → AreApart both u =
      (λ seat u away is. ⊎_elim
      (λ (x : (seat ≡ other) × (spent ≡ u)). subst (λ (k : K). AreApart both k) x.1 record { places = λ place mine theirs. theirs; tickets = λ ticket mine theirs. absurd (none-some ticket theirs); firsts = λ mine theirs. theirs })
      (λ (x : (seat ≢ other) × (get_elem? s.views seat ≡ some u)).
      let of-v = r.apart id seat v u (λ same. away (sym same)) at x.1 in
      let of-w = r.apart other seat w u (λ same. x.0 (sym same)) there' x.1 in record {
        places = λ place mine theirs. ⊎_elim (λ (here : IsIn place v.own). of-v.places place here theirs) (λ (here : IsIn place w.own). of-w.places place here theirs) (in-merged v.own w.own place mine);
        tickets = λ ticket mine theirs. absurd (none-some ticket (sym no-ticket ∙ mine));
        firsts = λ mine theirs. ⊎_elim (λ (here : IsFirst v.share). of-v.firsts here theirs) (λ (here : IsFirst w.share). of-w.firsts here theirs) (first-together v.share w.share mine);
      })
      (at_set s.views other seat spent u is)) in
      subst (λ (vs : List K). Rule record { words = s.words; homes = s.homes; views = vs }) (set_comm s.views other id spent both differ)
      record {
        log = r.log;
        drawn = r.drawn;
        served = r.served;
        words = r.words;
        few = r.few;
        knows = knows-set meaning from earlier r.log r.drawn r.served views id both (λ seat u _ is. rule.knows seat u is) (inr record {
          start = known.start;
          before = known.before;
          seen = longer-is (StartsWith r.log) v.seen w.seen known.seen known'.seen;
          met = longer-starts r.log v.seen w.seen known.seen known'.seen;
          met_start = known'.start;
          met_before = known'.before;
          own = places-merged 0 (length (longer v.seen w.seen)) v.own w.own apart.places (places-below 0 (length v.seen) (length (longer v.seen w.seen)) v.own known.own long.0)
              (places-below 0 (length w.seen) (length (longer v.seen w.seen)) w.own known'.own long.1);
          share = any-together v.share w.share known.share known'.share;
          ticket = λ ticket is. absurd (none-some ticket (sym no-ticket ∙ is));
          turn = λ is. absurd (false-true (sym free ∙ is));
        });
        apart = apart-set views id both rule.apart away;
        waiting = omega (arith, count, waiting);
        shares = λ seat u is. ⊎_elim
            (λ (x : (seat ≡ id) × (both ≡ u)). subst (λ (k : K). LeavesOut (all_noted (set views id both)) k.share) x.1
            (leaves-together (all_noted s.views) (all_noted (set views id both)) v.share w.share apart.firsts (r.shares id v at) (r.shares other w there') same))
            (λ (x : (seat ≢ id) × (get_elem? views seat ≡ some u)). ⊎_elim
            (λ (y : (seat ≡ other) × (spent ≡ u)). subst (λ (k : K). LeavesOut (all_noted (set views id both)) k.share) y.1 tt)
            (λ (y : (seat ≢ other) × (get_elem? s.views seat ≡ some u)). leaves-third (all_noted s.views) (all_noted (set views id both)) v.share w.share u.share
            (r.apart id seat v u (λ e. x.0 (sym e)) at y.1).firsts (r.apart other seat w u (λ e. y.0 (sym e)) there' y.1).firsts (r.shares seat u y.1) same)
            (at_set s.views other seat spent u x.1))
            (at_set views id seat both u is);
        owned = λ place low. let owned = r.owned place low in
            dite (ℕ_discrete owned.owner other)
            (λ is. record {
              owner = id;
              known = both;
              there = set-at views id v both at';
              own = merge-in v.own w.own place (inr (subst (λ (k : K). IsIn place k.own) (at-one s.views other owned.known w (subst (λ (n : ℕ). get_elem? s.views n ≡ some owned.known) is owned.there) there') owned.own));
            })
            (λ not. owned-set views id v both at' (λ p mine. merge-in v.own w.own p (inl mine)) place
            record { owner = owned.owner; known = owned.known; there = set_else s.views other owned.owner spent not ∙ owned.there; own = owned.own });
        slot = slot-stays meaning from earlier r.log s.homes views id v both at' free free rule.slot;
      }

  -- what was met is compared with what was seen
  pub compares : (slots id : ℕ) (me : M) → ((start : B) × (me.0.start ≡ Some start)) → me.0.ticket ≡ None → me.0.has_turn ≡ false → Allows Rule slots id me 0 (λ n. n) (compared (step slots 0 0 0 none) me)
  compares slots id me starts no-ticket free s r deep at _ =
      let known = true-of meaning from earlier r.log r.drawn r.served me.0 (r.knows id me.0 at) starts.0 starts.1 in
      let w : K = record me.0 { met = [] } in
      let count = tickets-set s.views id me.0 w at in
      let waiting = r.waiting in (
        w,
        keeps,
        tt,
        subst (λ (ws : List ℕ). Rule record { words = ws; homes = s.homes; views = set s.views id w }) (sym (set-get_or s.words 0 0))
            record {
              log = r.log;
              drawn = r.drawn;
              served = r.served;
              words = r.words;
              few = r.few;
              knows = knows-set meaning from earlier r.log r.drawn r.served s.views id w (λ seat u other there. r.knows seat u there) (inr record {
                start = known.start;
                before = known.before;
                seen = known.seen;
                met = (me.0.seen, refl);
                met_start = known.met_start;
                met_before = known.met_before;
                own = known.own;
                share = known.share;
                ticket = known.ticket;
                turn = known.turn;
              });
              apart = apart-set s.views id w r.apart (λ seat u other there. let old = r.apart id seat me.0 u (λ same. other (sym same)) at there in record { places = old.places; tickets = old.tickets; firsts = old.firsts });
              waiting = omega (arith, count, waiting);
              shares = shares-set s.views id me.0 w at refl r.shares;
              owned = λ place low. owned-set s.views id me.0 w at (λ _ mine. mine) place (r.owned place low);
              slot = slot-stays meaning from earlier r.log s.homes s.views id me.0 w at free free r.slot;
            },
        record { is = refl; start = known.start ∙ sym known.met_start; before = known.before ∙ sym known.met_before; starts = known.met; places = known.own },
      )
