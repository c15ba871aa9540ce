-- A reader and a form agree: what is taken is a text of the form, such a text is read again, whatever follows, and
-- a part of it is too short. Laws for readers that are made from others.
use Rattle.std.proofs.Common.{◌≡◌, ℕ, ◌+◌, ◌-◌, ◌<◌, List, [], ◌++◌, length, take, Result, Ok, Err, refl, sym, ap, subst, ◌∙◌, append_assoc, arith, inl, inr}
use Rattle.std.proofs.lemmas.Bool.{cases_lt}
use Rattle.std.proofs.lemmas.List.{take-append-le, get_or-append-add, length-append, append-nil}
use Rattle.std.proofs.Math.Seq.{take-append-add}
use Rattle.keyring_text.specs.Fields.{IsBytes}
use Rattle.keyring_text.specs.Forms.{Joined}
use Rattle.keyring_text.specs.FieldReading.{◌>>=◌}

-- what a reader took from the start
pub record Taken {A : Type 0} (holds : A → Type 0) (form : A → List ℕ → Type 0) (bytes : List ℕ) (x : A) (rest : List ℕ) : Type 0 where
  pub text : List ℕ
  pub parts : bytes ≡ text ++ rest
  pub kept : holds x
  pub is : form x text

-- if `holds` is true of the value
pub record ReadsIf {A F : Type 0} (short : F) (holds : A → Type 0) (form : A → List ℕ → Type 0) (read : List ℕ → Result (A × List ℕ) F) : Type 0 where
  pub takes : (bytes : List ℕ) (x : A) (rest : List ℕ) → IsBytes bytes → read bytes ≡ Ok (x, rest) → Taken holds form bytes x rest
  pub again : (x : A) (text rest : List ℕ) → holds x → form x text → read (text ++ rest) ≡ Ok (x, rest)
  pub cut : (x : A) (text : List ℕ) (n : ℕ) → holds x → form x text → n < length text → read (take n text) ≡ Err short

abbrev pub Always : {A : Type 0} → A → Type 0
Always x = Unit {0}

abbrev pub Reads : {A F : Type 0} → F → (A → List ℕ → Type 0) → (List ℕ → Result (A × List ℕ) F) → Type 0
Reads short form read = ReadsIf short Always form read

pub IsBytes-behind : (text rest : List ℕ) → IsBytes (text ++ rest) → IsBytes rest
IsBytes-behind text rest fits i = subst (λ (n : ℕ). n < 256) (get_or-append-add text rest i 0) (fits (length text + i))

-- the value of a step that didn't fail
pub record Bound {A B F : Type 0} (r : Result A F) (f : A → Result B F) (y : B) : Type 0 where
  pub x : A
  pub was : r ≡ Ok x
  pub then_is : f x ≡ Ok y

pub bind_ok : {A B F : Type 0} (r : Result A F) (f : A → Result B F) (y : B) → (r >>= f) ≡ Ok y → Bound r f y
bind_ok (Ok x) f y e = record { x = x; was = refl; then_is = e }
bind_ok (Err d) f y e = absurd cc

abbrev done : {A F : Type 0} → A → Result A F
done x = Ok x

pub ok_is : {A F : Type 0} (x y : A) → done {F = F} x ≡ done y → x ≡ y
ok_is x y e = cc

-- ---- a step, and what follows it

-- a text of J in two parts: one that the step reads, and one for what follows it
pub record Parted {A B : Type 0} (P : A → List ℕ → Type 0) (Q : A → B → Type 0) (N : A → B → List ℕ → Type 0) (b : B) (text : List ℕ) : Type 0 where
  pub x : A
  pub front : List ℕ
  pub back : List ℕ
  pub parts : text ≡ front ++ back
  pub is_first : P x front
  pub kept : Q x b
  pub is_second : N x b back

-- the value has the property, and its text is the two parts
pub record Put {B : Type 0} (holds : B → Type 0) (J : B → List ℕ → Type 0) (b : B) (text : List ℕ) : Type 0 where
  pub kept : holds b
  pub is : J b text

step-takes : {A B F : Type 0} {short : F} {P : A → List ℕ → Type 0} {r : List ℕ → Result (A × List ℕ) F} {holds : B → Type 0} {J : B → List ℕ → Type 0} {Q : A → B → Type 0} {N : A → B → List ℕ → Type 0} {k : A → List ℕ → Result (B × List ℕ) F}
    → Reads short P r → ((a : A) → ReadsIf short (Q a) (N a) (k a)) → ((a : A) (b : B) (front back : List ℕ) → P a front → Q a b → N a b back → Put holds J b (front ++ back)) → (bytes : List ℕ) (y : B) (rest : List ℕ) → IsBytes bytes
    → (r bytes >>= λ x. k x.0 x.1) ≡ Ok (y, rest) → Taken holds J bytes y rest
step-takes {r = r} {k = k} first next up bytes y rest fits e =
    let b = bind_ok (r bytes) (λ x. k x.0 x.1) (y, rest) e in
    let t = first.takes bytes b.x.0 b.x.1 fits b.was in
    let mid = IsBytes-behind t.text b.x.1 (subst IsBytes t.parts fits) in
    let u = (next b.x.0).takes b.x.1 y rest mid b.then_is in
    let all = up b.x.0 y t.text u.text t.is u.kept u.is in
    record { text = t.text ++ u.text; parts = t.parts ∙ ap (λ (w : List ℕ). t.text ++ w) u.parts ∙ sym (append_assoc t.text u.text rest); kept = all.kept; is = all.is }

step-again : {A B F : Type 0} {short : F} {P : A → List ℕ → Type 0} {r : List ℕ → Result (A × List ℕ) F} {holds : B → Type 0} {J : B → List ℕ → Type 0} {Q : A → B → Type 0} {N : A → B → List ℕ → Type 0} {k : A → List ℕ → Result (B × List ℕ) F}
    → Reads short P r → ((a : A) → ReadsIf short (Q a) (N a) (k a)) → ((b : B) (text : List ℕ) → holds b → J b text → Parted P Q N b text) → (y : B) (text rest : List ℕ) → holds y → J y text
    → (r (text ++ rest) >>= λ x. k x.0 x.1) ≡ Ok (y, rest)
step-again {r = r} {k = k} first next down y text rest h is =
    let j = down y text h is in
    let regrouped : text ++ rest ≡ j.front ++ (j.back ++ rest) = ap (λ (w : List ℕ). w ++ rest) j.parts ∙ append_assoc j.front j.back rest in
    ap (λ w. r w >>= λ x. k x.0 x.1) regrouped ∙ ap (λ w. w >>= λ x. k x.0 x.1) (first.again j.x j.front (j.back ++ rest) tt j.is_first) ∙ (next j.x).again y j.back rest j.kept j.is_second

step-cut : {A B F : Type 0} {short : F} {P : A → List ℕ → Type 0} {r : List ℕ → Result (A × List ℕ) F} {holds : B → Type 0} {J : B → List ℕ → Type 0} {Q : A → B → Type 0} {N : A → B → List ℕ → Type 0} {k : A → List ℕ → Result (B × List ℕ) F}
    → Reads short P r → ((a : A) → ReadsIf short (Q a) (N a) (k a)) → ((b : B) (text : List ℕ) → holds b → J b text → Parted P Q N b text) → (y : B) (text : List ℕ) (n : ℕ) → holds y → J y text → n < length text
    → (r (take n text) >>= λ x. k x.0 x.1) ≡ Err short
step-cut {r = r} {k = k} first next down y text n h is lt =
    let j = down y text h is in
    elim (cases_lt n (length j.front)) [
      | inl less ↦
          let shorter : take n text ≡ take n j.front = ap (λ w. take n w) j.parts ∙ take-append-le n j.front j.back (omega arith) in
          ap (λ w. r w >>= λ x. k x.0 x.1) shorter ∙ ap (λ w. w >>= λ x. k x.0 x.1) (first.cut j.x j.front n tt j.is_first less)
      | inr more ↦
          let m : ℕ = n - length j.front in
          let split : n ≡ length j.front + m = omega arith in
          let shorter : take n text ≡ j.front ++ take m j.back = ap (λ w. take n w) j.parts ∙ ap (λ i. take i (j.front ++ j.back)) split ∙ take-append-add j.front j.back m in
          let below : m < length j.back = omega (arith, ap length j.parts, length-append j.front j.back) in
          ap (λ w. r w >>= λ x. k x.0 x.1) shorter ∙ ap (λ w. w >>= λ x. k x.0 x.1) (first.again j.x j.front (take m j.back) tt j.is_first) ∙ (next j.x).cut y j.back m j.kept j.is_second below
    ]

pub step : {A B F : Type 0} {short : F} {P : A → List ℕ → Type 0} {r : List ℕ → Result (A × List ℕ) F} {holds : B → Type 0} {J : B → List ℕ → Type 0} {Q : A → B → Type 0} {N : A → B → List ℕ → Type 0} {k : A → List ℕ → Result (B × List ℕ) F}
    → Reads short P r → ((a : A) → ReadsIf short (Q a) (N a) (k a)) → ((a : A) (b : B) (front back : List ℕ) → P a front → Q a b → N a b back → Put holds J b (front ++ back))
    → ((b : B) (text : List ℕ) → holds b → J b text → Parted P Q N b text) → ReadsIf short holds J (λ bytes. r bytes >>= λ x. k x.0 x.1)
step first next up down = record { takes = step-takes first next up; again = step-again first next down; cut = step-cut first next down }

-- a field of the value, and what follows it
pub field : {A B F : Type 0} {short : F} {P : A → List ℕ → Type 0} {r : List ℕ → Result (A × List ℕ) F} {holds : B → Type 0} {M : B → List ℕ → Type 0} {k : A → List ℕ → Result (B × List ℕ) F} → (f : B → A) → Reads short P r
    → ((a : A) → ReadsIf short (λ b. holds b × (f b ≡ a)) M (k a)) → ReadsIf short holds (λ b. Joined (P (f b)) (M b)) (λ bytes. r bytes >>= λ x. k x.0 x.1)
field {P = P} {holds = holds} {M = M} f first next =
    step first next
    (λ a b front back p q n. record { kept = q.0; is = record { front = front; back = back; parts = refl; is_first = subst (λ x. P x front) (sym q.1) p; is_second = n } })
    (λ b text h j. record { x = f b; front = j.front; back = j.back; parts = j.parts; is_first = j.is_first; kept = (h, refl); is_second = j.is_second })

-- something reserved, and what follows it
pub skip : {A B F : Type 0} {short : F} {P : A → List ℕ → Type 0} {r : List ℕ → Result (A × List ℕ) F} {holds : B → Type 0} {S : List ℕ → Type 0} {M : B → List ℕ → Type 0} {k : List ℕ → Result (B × List ℕ) F} → Reads short P r
    → ((a : A) (text : List ℕ) → P a text → S text) → ((text : List ℕ) → S text → (a : A) × P a text) → ReadsIf short holds M k → ReadsIf short holds (λ b. Joined S (M b)) (λ bytes. r bytes >>= λ x. k x.1)
skip {P = P} {holds = holds} {M = M} first up down next =
    step first (λ _. next) (λ a b front back p q n. record { kept = q; is = record { front = front; back = back; parts = refl; is_first = up a front p; is_second = n } })
    (λ b text h j. let d = down j.front j.is_first in record { x = d.0; front = j.front; back = j.back; parts = j.parts; is_first = d.1; kept = h; is_second = j.is_second })

abbrev IsNothing : {A : Type 0} → A → List ℕ → Type 0
IsNothing x text = text ≡ []

-- nothing is read, and the value is known
pub give : {B F : Type 0} {short : F} {holds : B → Type 0} (y : B) → holds y → ((b : B) → holds b → y ≡ b) → ReadsIf short holds (λ b text. text ≡ []) (λ bytes. Ok (y, bytes))
give {F = F} {short = short} {holds = holds} y h one =
    record {
      takes = λ bytes x rest fits e.
          let e0 : y ≡ x = ap (λ (p : _ × List ℕ). p.0) (ok_is {F = F} (y, bytes) (x, rest) e) in
          let e1 : bytes ≡ rest = ap (λ (p : _ × List ℕ). p.1) (ok_is {F = F} (y, bytes) (x, rest) e) in
          record { text = []; parts = e1; kept = subst holds e0 h; is = refl };
      again = λ x text rest k is. ap (λ w. done {F = F} (y, w ++ rest)) is ∙ ap (λ w. done {F = F} (w, rest)) (one x k);
      cut = λ x text n k is lt. absurd (omega (arith, ap length is));
    }

-- the last field of the value
pub last : {A B F : Type 0} {short : F} {P : A → List ℕ → Type 0} {r : List ℕ → Result (A × List ℕ) F} {holds : B → Type 0} (f : B → A) → Reads short P r → (make : A → B) → ((a : A) → holds (make a) × (f (make a) ≡ a)) → ((b : B) → holds b → make (f b) ≡ b)
    → ReadsIf short holds (λ b. P (f b)) (λ bytes. r bytes >>= λ x. Ok (make x.0, x.1))
last {P = P} {holds = holds} f first make made one =
    step first (λ a. give {holds = λ b. holds b × (f b ≡ a)} (make a) (made a) (λ b q. ap make (sym q.1) ∙ one b q.0))
    (λ a b front back p q n. record { kept = q.0; is = subst (λ x. P (f b) x) (sym (ap (λ (w : List ℕ). front ++ w) n ∙ append-nil front)) (subst (λ x. P x front) (sym q.1) p) })
    (λ b text h p. record { x = f b; front = text; back = []; parts = sym (append-nil text); is_first = p; kept = (h, refl); is_second = refl })

-- something reserved at the end
pub skip_last : {A B F : Type 0} {short : F} {P : A → List ℕ → Type 0} {r : List ℕ → Result (A × List ℕ) F} {holds : B → Type 0} {S : List ℕ → Type 0} → Reads short P r → ((a : A) (text : List ℕ) → P a text → S text) → ((text : List ℕ) → S text → (a : A) × P a text)
    → (y : B) → holds y → ((b : B) → holds b → y ≡ b) → ReadsIf short holds (λ b. S) (λ bytes. r bytes >>= λ x. Ok (y, x.1))
skip_last {P = P} {holds = holds} {S = S} first up down y h one =
    step first (λ _. give y h one) (λ a b front back p q n. record { kept = q; is = subst S (sym (ap (λ (w : List ℕ). front ++ w) n ∙ append-nil front)) (up a front p) })
    (λ b text k s. let d = down text s in record { x = d.0; front = text; back = []; parts = sym (append-nil text); is_first = d.1; kept = k; is_second = refl })

-- ---- a reader in other words

-- the property may as well be stated of the text
pub alike : {A F : Type 0} {short : F} {holds keeps : A → Type 0} {P Q : A → List ℕ → Type 0} {r : List ℕ → Result (A × List ℕ) F} → ReadsIf short holds P r → ((a : A) (text : List ℕ) → holds a → P a text → Put keeps Q a text)
    → ((a : A) (text : List ℕ) → keeps a → Q a text → Put holds P a text) → ReadsIf short keeps Q r
alike first up down =
    record {
      takes = λ bytes x rest fits e. let t = first.takes bytes x rest fits e in let u = up x t.text t.kept t.is in record { text = t.text; parts = t.parts; kept = u.kept; is = u.is };
      again = λ x text rest k q. let d = down x text k q in first.again x text rest d.kept d.is;
      cut = λ x text n k q lt. let d = down x text k q in first.cut x text n d.kept d.is lt;
    }

-- a value made from what is read
pub made : {A B F : Type 0} {short : F} {P : A → List ℕ → Type 0} {r : List ℕ → Result (A × List ℕ) F} → Reads short P r → (make : A → B) (Z : B → List ℕ → Type 0) → ((a : A) (text : List ℕ) → P a text → Z (make a) text)
    → ((b : B) (text : List ℕ) → Z b text → (a : A) × (make a ≡ b) × P a text) → Reads short Z (λ bytes. r bytes >>= λ x. Ok (make x.0, x.1))
made {P = P} first make Z up down =
    step first (λ a. give {holds = λ b. b ≡ make a} (make a) refl (λ b e. sym e))
    (λ a b front back p e n. record { kept = tt; is = subst (λ w. Z b w) (sym (ap (λ (w : List ℕ). front ++ w) n ∙ append-nil front)) (subst (λ x. Z x front) (sym e) (up a front p)) })
    (λ b text h z. let d = down b text z in record { x = d.0; front = text; back = []; parts = sym (append-nil text); is_first = d.2; kept = sym d.1; is_second = refl })
