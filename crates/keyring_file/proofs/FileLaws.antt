-- The whole file: it spells what is read from it, what it spells is read, and a proper prefix of it
-- is Short.
use Rattle.std.proofs.Common.{◌≡◌, ℕ, ◌+◌, ◌-◌, ◌%◌, ◌≤◌, ◌<◌, min, Bool, true, false, cond, ◌||◌, nat_eq, ltb, leb, List, [], ◌∷◌, ◌++◌, length, take, drop, Result, Ok, Err, refl, sym, ap, subst, ◌∙◌, arith, inl, inr}
use Rattle.std.specs.Cmp.{unsigned_Decides}
use Rattle.std.specs.Cmp.Lexicographic.{pointwise, pointwise_decides}
use Rattle.std.proofs.lemmas.Bool.{cases_lt, ltb-false, lt-ltb, le-ltb, leb-true, le-leb}
use Rattle.std.proofs.lemmas.List.{take-append-le, take-append-drop, length-append, length-take, take_at, drop_at, take_all}
use Rattle.std.proofs.Math.Seq.{take-append-add}
use Rattle.keyring_text.specs.declared.fault.FieldFault.TheVariants as field_fault
use Rattle.keyring_text.specs.Fields.{IsBytes, SpellsNumber, SpellsTime, SpellsText, IsSpan}
use Rattle.keyring_text.specs.Forms.{Joined, Exactly}
use Rattle.keyring_text.specs.FieldReading.{◌>>=◌, number_at, checked}
use Rattle.keyring_text.proofs.Laws.{Taken, Always, Reads, bind_ok, ok_is, field, skip, skip_last, last, alike, IsBytes-behind}
use Rattle.keyring_text.proofs.ListLaws.{found, tested}
use Rattle.keyring_text.proofs.FieldLaws.{number_law, time_law, text_law, span_law, IsSpelled}
use Rattle.keyring_file.specs.declared.clear_reading.Front.{Front}
use Rattle.keyring_file.specs.declared.fault.ClearFault.{ClearFault}
use Rattle.keyring_file.specs.declared.fault.ClearFault.TheVariants as clear_fault
use Rattle.keyring_file.specs.Clear.{ClearPart}
use Rattle.keyring_file.specs.ClearText.{magic, most_iterations, SpellsVersion, SpellsIterations, IsSalt, SpellsSalt, SpellsClear, SpellsClearItems, IsAreaLength, ClearText}
use Rattle.keyring_file.specs.FileReading.{in_clear, magic_at, version_byte_at, version_at, numbers_after, front_at, limited_at, salt_at, items_after, clear_at, is_no_area_length, area_of, encrypted_at, clear_read}
use Rattle.keyring_file.proofs.ClearLaws.{in_clear_law, clear_items_law}

-- ---- the first 16 bytes

same_bytes : (x y : List ℕ) → pointwise nat_eq x y ≡ true → x ≡ y
same_bytes x y e = (pointwise_decides unsigned_Decides x y).0 e

equal_bytes : (x y : List ℕ) → x ≡ y → pointwise nat_eq x y ≡ true
equal_bytes x y e = (pointwise_decides unsigned_Decides x y).1 e

-- what was found if both tests succeeded
pub record BothWell (a b : Bool) (bytes rest : List ℕ) : Type 0 where
  pub same : a ≡ true
  pub long : b ≡ false
  pub rest_is : bytes ≡ rest

magic-tested : (a b : Bool) (u : Unit {0}) (bytes rest : List ℕ) → cond a (cond b (Err clear_fault.Short) (found tt bytes)) (Err clear_fault.Magic) ≡ Ok (u, rest) → BothWell a b bytes rest
magic-tested true true u bytes rest e = absurd cc
magic-tested true false u bytes rest e = record { same = refl; long = refl; rest_is = ap (λ (w : Unit {0} × List ℕ). w.1) (ok_is {F = ClearFault} (tt, bytes) (u, rest) e) }
magic-tested false b u bytes rest e = absurd cc

magic-takes : (bytes : List ℕ) (u : Unit {0}) (rest : List ℕ) → magic_at bytes ≡ Ok (u, rest) → Taken Always (λ (v : Unit {0}). Exactly magic) bytes u rest
unfolding magic_at
magic-takes bytes u rest e =
    let n = min (length bytes) 16 in
    let t = magic-tested (pointwise nat_eq (take n bytes) (take n magic)) (ltb (length bytes) 16) u (drop 16 bytes) rest e in
    let long : 16 ≤ length bytes = ltb-false (length bytes) 16 t.long in
    let n-is : min (length bytes) 16 ≡ 16 = omega arith in
    let front : take 16 bytes ≡ magic = ap (λ i. take i bytes) (sym n-is) ∙ same_bytes _ _ t.same ∙ ap (λ i. take i magic) n-is in
    record { text = magic; parts = sym (take-append-drop 16 bytes) ∙ ap (λ w. w ++ drop 16 bytes) front ∙ ap (λ w. magic ++ w) t.rest_is; kept = tt; is = refl }

magic-again : (text rest : List ℕ) → text ≡ magic → magic_at (text ++ rest) ≡ Ok (tt, rest)
unfolding magic_at
magic-again text rest e =
    let len : length text ≡ 16 = ap length e in
    let n-is : min (length (text ++ rest)) 16 ≡ 16 = omega (arith, length-append text rest) in
    let front : take (min (length (text ++ rest)) 16) (text ++ rest) ≡ take (min (length (text ++ rest)) 16) magic = rw (n-is, take_at text rest 16 len) e in
    let long : ltb (length (text ++ rest)) 16 ≡ false = le-ltb _ _ (omega (arith, length-append text rest)) in
    rw (equal_bytes _ _ front, long, drop_at text rest 16 len) refl

magic-cut : (text : List ℕ) (n : ℕ) → text ≡ magic → n < length text → magic_at (take n text) ≡ Err clear_fault.Short
unfolding magic_at
magic-cut text n e lt =
    let len : length text ≡ 16 = ap length e in
    let short : length (take n text) ≡ n = omega (arith, length-take n text) in
    let n-is : min (length (take n text)) 16 ≡ n = omega arith in
    let front : take (min (length (take n text)) 16) (take n text) ≡ take (min (length (take n text)) 16) magic = rw n-is (take_all n (take n text) (omega arith) ∙ ap (λ w. take n w) e) in
    let few : ltb (length (take n text)) 16 ≡ true = lt-ltb _ _ (omega arith) in
    rw (equal_bytes _ _ front, few) refl

magic_law : Reads clear_fault.Short (λ (u : Unit {0}). Exactly magic) magic_at
magic_law =
    record { takes = λ bytes u rest fits e. magic-takes bytes u rest e; again = λ u text rest h is. magic-again text rest is; cut = λ u text n h is lt. magic-cut text n is lt }

-- ---- the version

-- this byte, which is at most `most`
pub record IsByte (most b : ℕ) (text : List ℕ) : Type 0 where
  pub is : text ≡ b ∷ []
  pub le : b ≤ most

byte-takes : (most : ℕ) (bytes : List ℕ) (x : ℕ) (rest : List ℕ) → version_byte_at most bytes ≡ Ok (x, rest) → Taken Always (IsByte most) bytes x rest
byte-takes most [] x rest e = absurd cc
byte-takes most (b ∷ bytes) x rest e = byte-tested (ltb most b) refl e
  where
    byte-tested : (t : Bool) → ltb most b ≡ t → cond t (Err clear_fault.Version) (found b bytes) ≡ Ok (x, rest) → Taken Always (IsByte most) (b ∷ bytes) x rest
    byte-tested true p e = absurd cc
    byte-tested false p e =
        let q = ok_is {F = ClearFault} (b, bytes) (x, rest) e in
        let b-is : b ≡ x = ap (λ (w : ℕ × List ℕ). w.0) q in
        record { text = x ∷ []; parts = ap (λ w. w ∷ bytes) b-is ∙ ap (λ w. x ∷ w) (ap (λ (w : ℕ × List ℕ). w.1) q); kept = tt; is = record { is = refl; le = subst (λ n. n ≤ most) b-is (ltb-false most b p) } }

byte-again : (most x : ℕ) (text rest : List ℕ) → IsByte most x text → version_byte_at most (text ++ rest) ≡ Ok (x, rest)
byte-again most x text rest b = ap (λ w. version_byte_at most (w ++ rest)) b.is ∙ rw (le-ltb most x b.le) refl

byte-cut : (most x : ℕ) (text : List ℕ) (n : ℕ) → IsByte most x text → n < length text → version_byte_at most (take n text) ≡ Err clear_fault.Short
byte-cut most x text n b lt =
    let none : n ≡ 0 = omega (arith, ap length b.is) in
    ap (λ i. version_byte_at most (take i text)) none

byte_law : (most : ℕ) → Reads clear_fault.Short (IsByte most) (λ bytes. version_byte_at most bytes)
byte_law most = record { takes = λ bytes x rest fits e. byte-takes most bytes x rest e; again = λ x text rest h b. byte-again most x text rest b; cut = λ x text n h b lt. byte-cut most x text n b lt }

-- some byte, which is at most `most`
pub record SomeByte (most : ℕ) (text : List ℕ) : Type 0 where
  pub b : ℕ
  pub is : IsByte most b text

abbrev FourBytes : ℕ → List ℕ → Type 0
FourBytes minor = Joined (SomeByte 0) (Joined (IsByte 1 minor) (Joined (SomeByte 0) (SomeByte 0)))

some-up : (most a : ℕ) (text : List ℕ) → IsByte most a text → SomeByte most text
some-up most a text b = record { b = a; is = b }

some-down : (most : ℕ) (text : List ℕ) → SomeByte most text → (a : ℕ) × IsByte most a text
some-down most text s = (s.b, s.is)

four_law : Reads clear_fault.Short FourBytes version_at
unfolding version_at
four_law =
    skip (byte_law 0) (some-up 0) (some-down 0)
    (field (λ m. m) (byte_law 1)
    (λ minor. skip (byte_law 0) (some-up 0) (some-down 0) (skip_last {holds = λ m. Always m × (m ≡ minor)} (byte_law 0) (some-up 0) (some-down 0) minor (tt, refl) (λ b h. sym h.1))))

four-up : (minor : ℕ) (text : List ℕ) → FourBytes minor text → SpellsVersion minor text
four-up minor text j =
    let k = j.is_second in
    let l = k.is_second in
    let a = j.is_first.is in
    let c = l.is_first.is in
    let d = l.is_second.is in
    let a0 : j.is_first.b ≡ 0 = omega (arith, a.le) in
    let c0 : l.is_first.b ≡ 0 = omega (arith, c.le) in
    let d0 : l.is_second.b ≡ 0 = omega (arith, d.le) in
    let last-is : l.back ≡ 0 ∷ [] = d.is ∙ ap (λ b. b ∷ []) d0 in
    let third-is : k.back ≡ 0 ∷ 0 ∷ [] = l.parts ∙ ap (λ w. w ++ l.back) (c.is ∙ ap (λ b. b ∷ []) c0) ∙ ap (λ w. 0 ∷ w) last-is in
    let second-is : j.back ≡ minor ∷ 0 ∷ 0 ∷ [] = k.parts ∙ ap (λ w. w ++ k.back) k.is_first.is ∙ ap (λ w. minor ∷ w) third-is in
    record { known = k.is_first.le; is = j.parts ∙ ap (λ w. w ++ j.back) (a.is ∙ ap (λ b. b ∷ []) a0) ∙ ap (λ w. 0 ∷ w) second-is }

zero-byte : SomeByte 0 (0 ∷ [])
zero-byte = record { b = 0; is = record { is = refl; le = omega arith } }

four-down : (minor : ℕ) (text : List ℕ) → SpellsVersion minor text → FourBytes minor text
four-down minor text v = record {
  front = 0 ∷ [];
  back = minor ∷ 0 ∷ 0 ∷ [];
  parts = v.is;
  is_first = zero-byte;
  is_second = record { front = minor ∷ []; back = 0 ∷ 0 ∷ []; parts = refl; is_first = record { is = refl; le = v.known }; is_second = record { front = 0 ∷ []; back = 0 ∷ []; parts = refl; is_first = zero-byte; is_second = zero-byte } };
}

version_law : Reads clear_fault.Short SpellsVersion version_at
version_law = alike four_law (λ m text h j. record { kept = tt; is = four-up m text j }) (λ m text h v. record { kept = tt; is = four-down m text v })

-- ---- the front

abbrev FrontText : Front → List ℕ → Type 0
FrontText f =
    Joined (SpellsText f.name) (Joined (SpellsTime f.created) (Joined (SpellsTime f.modified) (Joined (SpellsNumber f.flags) (Joined (SpellsNumber f.timeout) (SpellsNumber f.iterations)))))

front_law : Reads field_fault.Short FrontText front_at
unfolding front_at numbers_after
front_law =
    field (λ (f : Front). f.name) text_law
    (λ name.
    field (λ f. f.created) time_law
    (λ created.
    field (λ f. f.modified) time_law
    (λ modified.
    field (λ f. f.flags) number_law
    (λ flags.
    field (λ f. f.timeout) number_law
    (λ timeout.
    last {holds = λ (f : Front). ((((Always f × (f.name ≡ name)) × (f.created ≡ created)) × (f.modified ≡ modified)) × (f.flags ≡ flags)) × (f.timeout ≡ timeout)} (λ f. f.iterations) number_law
    (λ iterations. record { name = name; created = created; modified = modified; flags = flags; timeout = timeout; iterations = iterations }) (λ a. ((((((tt, refl), refl), refl), refl), refl), refl))
    (λ b h i. record { name = sym h.0.0.0.0.1 i; created = sym h.0.0.0.1 i; modified = sym h.0.0.1 i; flags = sym h.0.1 i; timeout = sym h.1 i; iterations = b.iterations }))))))

-- the front of a clear part
abbrev front_of : ClearPart → Front
front_of c = record { name = c.name; created = c.created; modified = c.modified; flags = c.flags; timeout = c.timeout; iterations = c.iterations }

-- the same, with iterations that aren't too many
abbrev LimitedText : Front → List ℕ → Type 0
LimitedText f =
    Joined (SpellsText f.name) (Joined (SpellsTime f.created) (Joined (SpellsTime f.modified) (Joined (SpellsNumber f.flags) (Joined (SpellsNumber f.timeout) (SpellsIterations f.iterations)))))

limited-up : (f : Front) (text : List ℕ) → leb f.iterations most_iterations ≡ true → FrontText f text → LimitedText f text
limited-up f text h j =
    let k = j.is_second in
    let l = k.is_second in
    let m = l.is_second in
    let n = m.is_second in
    record {
      front = j.front;
      back = j.back;
      parts = j.parts;
      is_first = j.is_first;
      is_second = record {
        front = k.front;
        back = k.back;
        parts = k.parts;
        is_first = k.is_first;
        is_second = record {
          front = l.front;
          back = l.back;
          parts = l.parts;
          is_first = l.is_first;
          is_second = record {
            front = m.front;
            back = m.back;
            parts = m.parts;
            is_first = m.is_first;
            is_second = record { front = n.front; back = n.back; parts = n.parts; is_first = n.is_first; is_second = record { few = leb-true f.iterations most_iterations h; number = n.is_second } };
          };
        };
      };
    }

limited-few : (f : Front) (text : List ℕ) → LimitedText f text → leb f.iterations most_iterations ≡ true
limited-few f text j = le-leb f.iterations most_iterations j.is_second.is_second.is_second.is_second.is_second.few

limited-down : (f : Front) (text : List ℕ) → LimitedText f text → FrontText f text
limited-down f text j =
    let k = j.is_second in
    let l = k.is_second in
    let m = l.is_second in
    let n = m.is_second in
    record {
      front = j.front;
      back = j.back;
      parts = j.parts;
      is_first = j.is_first;
      is_second = record {
        front = k.front;
        back = k.back;
        parts = k.parts;
        is_first = k.is_first;
        is_second = record {
          front = l.front;
          back = l.back;
          parts = l.parts;
          is_first = l.is_first;
          is_second = record { front = m.front; back = m.back; parts = m.parts; is_first = m.is_first; is_second = record { front = n.front; back = n.back; parts = n.parts; is_first = n.is_first; is_second = n.is_second.number } };
        };
      };
    }

limited_law : Reads clear_fault.Short LimitedText limited_at
unfolding limited_at
limited_law =
    alike (tested (λ (f : Front). leb f.iterations most_iterations) clear_fault.TooManyIterations (in_clear_law front_law)) (λ f text h j. record { kept = tt; is = limited-up f text h j })
    (λ f text h j. record { kept = limited-few f text j; is = limited-down f text j })

-- ---- the salt

salt-up : (salt text : List ℕ) → IsSpelled 8 salt text → IsSalt salt text
salt-up salt text s = record { is = s.is; len = s.len }

eight_law : Reads field_fault.Short IsSalt (λ bytes. Rattle.keyring_text.specs.FieldReading.span_at 8 bytes)
eight_law = alike (span_law 8) (λ s text h p. record { kept = tt; is = record { is = p.is; len = p.len } }) (λ s text h p. record { kept = tt; is = record { is = p.is; len = p.len } })

span-up : (n : ℕ) (a text : List ℕ) → IsSpelled n a text → IsSpan n text
span-up n a text s = record { len = ap length s.is ∙ s.len }

span-down : (n : ℕ) (text : List ℕ) → IsSpan n text → (a : List ℕ) × IsSpelled n a text
span-down n text s = (text, record { is = refl; len = s.len })

salt_law : Reads field_fault.Short SpellsSalt salt_at
unfolding salt_at
salt_law = field (λ s. s) eight_law (λ salt. skip_last {holds = λ s. Always s × (s ≡ salt)} (span_law 16) (span-up 16) (span-down 16) salt (tt, refl) (λ b h. sym h.1))

-- ---- all of the clear part

pub clear_law : Reads clear_fault.Short SpellsClear clear_at
unfolding clear_at items_after
clear_law =
    skip magic_law (λ u text is. is) (λ text is. (tt, is))
    (field (λ (c : ClearPart). c.minor) version_law
    (λ minor.
    field front_of limited_law
    (λ front.
    field (λ c. c.salt) (in_clear_law salt_law)
    (λ salt.
    alike
    (last {holds = λ (c : ClearPart). ((Always c × (c.minor ≡ minor)) × (front_of c ≡ front)) × (c.salt ≡ salt)} (λ c. c.items) (clear_items_law minor)
    (λ items.
    record { name = front.name; created = front.created; modified = front.modified; flags = front.flags; timeout = front.timeout; iterations = front.iterations; salt = salt; items = items; minor = minor })
    (λ a. ((((tt, refl), refl), refl), refl))
    (λ b h i.
    record {
      name = (sym h.0.1 i).name;
      created = (sym h.0.1 i).created;
      modified = (sym h.0.1 i).modified;
      flags = (sym h.0.1 i).flags;
      timeout = (sym h.0.1 i).timeout;
      iterations = (sym h.0.1 i).iterations;
      salt = sym h.1 i;
      items = b.items;
      minor = sym h.0.0.1 i;
    }))
    (λ c text h is. record { kept = h; is = subst (λ m. SpellsClearItems m c.items text) (sym h.0.0.1) is })
    (λ c text h is. record { kept = h; is = subst (λ m. SpellsClearItems m c.items text) h.0.0.1 is })))))

-- ---- the encrypted area

abbrev TailText : List ℕ → List ℕ → Type 0
TailText area = Joined (SpellsNumber (length area)) (Exactly area)

abbrev there : List ℕ → Result (List ℕ) ClearFault
there area = Ok area

-- what was found if no test refused it
pub record AllWell (a b c : Bool) (rest area : List ℕ) : Type 0 where
  pub first : a ≡ false
  pub second : b ≡ false
  pub third : c ≡ false
  pub is : rest ≡ area

area-tested : (a b c : Bool) (rest area : List ℕ) → cond a (Err clear_fault.AreaLength) (cond b (Err clear_fault.Short) (cond c (Err clear_fault.Trailing) (there rest))) ≡ there area → AllWell a b c rest area
area-tested true b c rest area e = absurd cc
area-tested false true c rest area e = absurd cc
area-tested false false true rest area e = absurd cc
area-tested false false false rest area e = record { first = refl; second = refl; third = refl; is = cc }

or-none : (a b : Bool) → (a || b) ≡ false → (a ≡ false) × (b ≡ false)
or-none true b e = absurd cc
or-none false b e = (refl, e)

area-length : (n : ℕ) → is_no_area_length n ≡ false → IsAreaLength n
area-length n e = let o = or-none (ltb n 16) (ltb 0 (n % 16)) e in record { blocks = omega (arith, ltb-false 0 (n % 16) o.1); some = ltb-false n 16 o.0 }

no-area-length : (n : ℕ) → IsAreaLength n → is_no_area_length n ≡ false
no-area-length n a = rw (le-ltb n 16 a.some, le-ltb 0 (n % 16) (omega (arith, a.blocks))) refl

-- the area was found
pub record Found (bytes area : List ℕ) : Type 0 where
  pub blocks : IsAreaLength (length area)
  pub text : TailText area bytes

encrypted-takes : (bytes area : List ℕ) → IsBytes bytes → encrypted_at bytes ≡ Ok area → Found bytes area
unfolding encrypted_at
encrypted-takes bytes area fits e =
    let b = bind_ok (in_clear (number_at bytes)) (λ len. area_of len.0 len.1) area e in
    let t = (in_clear_law number_law).takes bytes b.x.0 b.x.1 fits b.was in
    let w = area-tested (is_no_area_length b.x.0) (ltb (length b.x.1) b.x.0) (ltb b.x.0 (length b.x.1)) b.x.1 area b.then_is in
    let len : b.x.0 ≡ length area = omega (arith, ltb-false _ _ w.second, ltb-false _ _ w.third, ap length w.is) in
    record { blocks = subst IsAreaLength len (area-length b.x.0 w.first); text = record { front = t.text; back = area; parts = t.parts ∙ ap (λ z. t.text ++ z) w.is; is_first = subst (λ n. SpellsNumber n t.text) len t.is; is_second = refl } }

area-fits : (area : List ℕ) → IsAreaLength (length area) → area_of (length area) area ≡ Ok area
area-fits area a = rw (no-area-length (length area) a, le-ltb (length area) (length area) (omega arith)) refl

encrypted-again : (area text : List ℕ) → IsAreaLength (length area) → TailText area text → encrypted_at text ≡ Ok area
unfolding encrypted_at
encrypted-again area text a j =
    ap (λ w. in_clear (number_at w) >>= λ len. area_of len.0 len.1) (j.parts ∙ ap (λ w. j.front ++ w) j.is_second)
    ∙ ap (λ w. w >>= λ len. area_of len.0 len.1) ((in_clear_law number_law).again (length area) j.front area tt j.is_first)
    ∙ area-fits area a

area-short : (n m : ℕ) (area : List ℕ) → IsAreaLength n → n ≡ length area → m < n → area_of n (take m area) ≡ Err clear_fault.Short
area-short n m area a e lt =
    let less : length (take m area) < n = omega (arith, length-take m area) in
    rw (no-area-length n a, lt-ltb _ _ less) refl

encrypted-cut : (area text : List ℕ) (n : ℕ) → IsAreaLength (length area) → TailText area text → n < length text → encrypted_at (take n text) ≡ Err clear_fault.Short
unfolding encrypted_at
encrypted-cut area text n a j lt =
    elim (cases_lt n (length j.front)) [
      | inl less ↦
          let shorter : take n text ≡ take n j.front = ap (λ w. take n w) j.parts ∙ take-append-le n j.front j.back (omega arith) in
          ap (λ w. in_clear (number_at w) >>= λ len. area_of len.0 len.1) shorter ∙ ap (λ w. w >>= λ len. area_of len.0 len.1) ((in_clear_law number_law).cut (length area) j.front n tt j.is_first less)
      | inr more ↦
          let m : ℕ = n - length j.front in
          let split : n ≡ length j.front + m = omega arith in
          let whole : text ≡ j.front ++ area = j.parts ∙ ap (λ w. j.front ++ w) j.is_second in
          let shorter : take n text ≡ j.front ++ take m area = ap (λ w. take n w) whole ∙ ap (λ i. take i (j.front ++ area)) split ∙ take-append-add j.front area m in
          let below : m < length area = omega (arith, ap length whole, length-append j.front area) in
          ap (λ w. in_clear (number_at w) >>= λ len. area_of len.0 len.1) shorter
          ∙ ap (λ w. w >>= λ len. area_of len.0 len.1) ((in_clear_law number_law).again (length area) j.front (take m area) tt j.is_first)
          ∙ area-short (length area) m area a refl below
    ]

-- ---- the whole file

abbrev both : ClearPart → List ℕ → Result (ClearPart × List ℕ) ClearFault
both clear area = Ok (clear, area)

pub file_found : (file area : List ℕ) (clear : ClearPart) → IsBytes file → clear_read file ≡ Ok (clear, area) → ClearText file clear area
unfolding clear_read
file_found file area clear fits e =
    let b = bind_ok (clear_at file) (λ part. encrypted_at part.1 >>= λ rest. both part.0 rest) (clear, area) e in
    let d = bind_ok (encrypted_at b.x.1) (λ rest. both b.x.0 rest) (clear, area) b.then_is in
    let p = ok_is {F = ClearFault} (b.x.0, d.x) (clear, area) d.then_is in
    let t = clear_law.takes file b.x.0 b.x.1 fits b.was in
    let f = encrypted-takes b.x.1 d.x (IsBytes-behind t.text b.x.1 (subst IsBytes t.parts fits)) d.was in
    subst (λ (q : ClearPart × List ℕ). ClearText file q.0 q.1) p (record { blocks = f.blocks; text = record { front = t.text; back = b.x.1; parts = t.parts; is_first = t.is; is_second = f.text } })

pub file_again : (file area : List ℕ) (clear : ClearPart) → ClearText file clear area → clear_read file ≡ Ok (clear, area)
unfolding clear_read
file_again file area clear t =
    let j = t.text in
    ap (λ w. clear_at w >>= λ part. encrypted_at part.1 >>= λ rest. both part.0 rest) j.parts
    ∙ ap (λ w. w >>= λ part. encrypted_at part.1 >>= λ rest. both part.0 rest) (clear_law.again clear j.front j.back tt j.is_first)
    ∙ ap (λ w. w >>= λ rest. both clear rest) (encrypted-again area j.back t.blocks j.is_second)

pub file_cut : (file area : List ℕ) (clear : ClearPart) (n : ℕ) → ClearText file clear area → n < length file → clear_read (take n file) ≡ Err clear_fault.Short
unfolding clear_read
file_cut file area clear n t lt =
    let j = t.text in
    elim (cases_lt n (length j.front)) [
      | inl less ↦
          let shorter : take n file ≡ take n j.front = ap (λ w. take n w) j.parts ∙ take-append-le n j.front j.back (omega arith) in
          ap (λ w. clear_at w >>= λ part. encrypted_at part.1 >>= λ rest. both part.0 rest) shorter ∙ ap (λ w. w >>= λ part. encrypted_at part.1 >>= λ rest. both part.0 rest) (clear_law.cut clear j.front n tt j.is_first less)
      | inr more ↦
          let m : ℕ = n - length j.front in
          let split : n ≡ length j.front + m = omega arith in
          let shorter : take n file ≡ j.front ++ take m j.back = ap (λ w. take n w) j.parts ∙ ap (λ i. take i (j.front ++ j.back)) split ∙ take-append-add j.front j.back m in
          let below : m < length j.back = omega (arith, ap length j.parts, length-append j.front j.back) in
          ap (λ w. clear_at w >>= λ part. encrypted_at part.1 >>= λ rest. both part.0 rest) shorter
          ∙ ap (λ w. w >>= λ part. encrypted_at part.1 >>= λ rest. both part.0 rest) (clear_law.again clear j.front (take m j.back) tt j.is_first)
          ∙ ap (λ w. w >>= λ rest. both clear rest) (encrypted-cut area j.back m t.blocks j.is_second below)
    ]
