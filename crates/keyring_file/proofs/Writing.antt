-- What several calls wrote one after the other is one text.
use Rattle.std.proofs.Common.{◌≡◌, ℕ, ◌+◌, ◌<◌, List, [], ◌∷◌, ◌++◌, length, get_or, take, Result, Ok, Err, sym, ap, ◌∙◌, append_assoc}
use Rattle.std.specs.List.{flat_map}
use Rattle.std.specs.Result.{OnOk}
use Rattle.std.proofs.lemmas.List.{take_more, append-nil}
use Rattle.std.proofs.lemmas.List.Concat.{flat_map-append, flat_map-cons}

pub front-put : {T E : Type 0} (r : Result T E) (old one two new m v n c d f t i s z : List ℕ) → one ≡ old ++ (m ++ v) → two ≡ one ++ (n ++ (c ++ d)) → OnOk r (new ≡ two ++ (f ++ (t ++ (i ++ (s ++ z)))))
    → OnOk r (new ≡ old ++ (m ++ (v ++ (n ++ (c ++ (d ++ (f ++ (t ++ (i ++ (s ++ z))))))))))
front-put (Ok x) old one two new m v n c d f t i s z p q h = h ∙ ap (λ w. w ++ (f ++ (t ++ (i ++ (s ++ z))))) (q ∙ ap (λ w. w ++ (n ++ (c ++ d))) p) ∙ simp append_assoc
front-put (Err e) old one two new m v n c d f t i s z p q h = tt

pub item-put : {T E : Type 0} (r : Result T E) (old one two three new l s c d k z a b : List ℕ) → one ≡ old ++ (l ++ (s ++ (c ++ d))) → two ≡ one ++ k → three ≡ two ++ z → OnOk r (new ≡ three ++ (a ++ b))
    → OnOk r (new ≡ old ++ (l ++ (s ++ (c ++ (d ++ (k ++ (z ++ (a ++ b))))))))
item-put (Ok x) old one two three new l s c d k z a b p q r h = h ∙ ap (λ w. w ++ (a ++ b)) (r ∙ ap (λ w. w ++ z) (q ∙ ap (λ w. w ++ k) p)) ∙ simp append_assoc
item-put (Err e) old one two three new l s c d k z a b p q r h = tt

-- one more element, as at a step of a loop
pub one_more : {A : Type 0} (text : A → List ℕ) (xs : List A) (i : ℕ) (x : A) (old before after : List ℕ) → i < length xs → x ≡ get_or xs i x → before ≡ old ++ flat_map text (take i xs) → after ≡ before ++ text x → after ≡ old ++ flat_map text (take (i + 1) xs)
one_more text xs i x old before after lt is p q =
    let all : take (i + 1) xs ≡ take i xs ++ x ∷ [] = take_more xs i x lt ∙ ap (λ y. take i xs ++ y ∷ []) (sym is) in
    let last : flat_map text (x ∷ []) ≡ text x = flat_map-cons text x [] ∙ append-nil (text x) in
    let parts : flat_map text (take (i + 1) xs) ≡ flat_map text (take i xs) ++ text x = ap (λ ys. flat_map text ys) all ∙ flat_map-append text (take i xs) (x ∷ []) ∙ ap (λ w. flat_map text (take i xs) ++ w) last in
    q ∙ ap (λ w. w ++ text x) p ∙ append_assoc old (flat_map text (take i xs)) (text x) ∙ ap (λ w. old ++ w) (sym parts)

-- two texts, each put by a call of its own, and then three, four and five
pub two-put : {T E : Type 0} (r : Result T E) (old one new a b : List ℕ) → one ≡ old ++ a → OnOk r (new ≡ one ++ b) → OnOk r (new ≡ old ++ (a ++ b))
two-put (Ok x) old one new a b p h = h ∙ ap (λ w. w ++ b) p ∙ append_assoc old a b
two-put (Err e) old one new a b p h = tt

pub three-put : {T E : Type 0} (r : Result T E) (old one two new a b c : List ℕ) → one ≡ old ++ a → two ≡ one ++ b → OnOk r (new ≡ two ++ c) → OnOk r (new ≡ old ++ (a ++ (b ++ c)))
three-put r old one two new a b c p q h = two-put r old one new a (b ++ c) p (two-put r one two new b c q h)

pub four-put : {T E : Type 0} (r : Result T E) (old one two three new a b c d : List ℕ) → one ≡ old ++ a → two ≡ one ++ b → three ≡ two ++ c → OnOk r (new ≡ three ++ d) → OnOk r (new ≡ old ++ (a ++ (b ++ (c ++ d))))
four-put r old one two three new a b c d p q s h = two-put r old one new a (b ++ (c ++ d)) p (three-put r one two three new b c d q s h)

pub five-put : {T E : Type 0} (r : Result T E) (old one two three four new a b c d e : List ℕ) → one ≡ old ++ a → two ≡ one ++ b → three ≡ two ++ c → four ≡ three ++ d → OnOk r (new ≡ four ++ e) → OnOk r (new ≡ old ++ (a ++ (b ++ (c ++ (d ++ e)))))
five-put r old one two three four new a b c d e p q s t h = two-put r old one new a (b ++ (c ++ (d ++ e))) p (four-put r one two three four new b c d e q s t h)
