-- Parts of four and of sixteen bytes of a list.
use Rattle.std.proofs.Common.{◌≡◌, ℕ, ◌+◌, ◌-◌, ◌≤◌, List, ◌++◌, take, drop, ap, sym, ◌∙◌, arith}
use Rattle.std.proofs.lemmas.List.{append_assoc, drop-drop}
use Rattle.std.proofs.Math.Seq.{take-add}

-- sixteen bytes are four times four
pub take_sixteen : (at : ℕ) (xs : List ℕ)
    → take 4 (drop at xs) ++ (take 4 (drop (at + 4) xs) ++ (take 4 (drop (at + 8) xs) ++ take 4 (drop (at + 12) xs)))
    ≡ take 16 (drop at xs)
take_sixteen at xs =
    let ys : List ℕ = drop at xs in
    let two : take 4 (drop (at + 8) xs) ++ take 4 (drop (at + 12) xs) ≡ take 8 (drop 8 ys) =
    (λ i. take 4 (sym (drop-drop 8 at xs) i) ++ take 4 ((sym (drop-drop 12 at xs) ∙ sym (drop-drop 4 8 ys)) i))
    ∙ sym (take-add 4 4 (drop 8 ys)) in
    let three : take 4 (drop (at + 4) xs) ++ take 8 (drop 8 ys) ≡ take 12 (drop 4 ys) =
    (λ i. take 4 (sym (drop-drop 4 at xs) i) ++ take 8 (sym (drop-drop 4 4 ys) i)) ∙ sym (take-add 4 8 (drop 4 ys)) in
    (λ i. take 4 ys ++ (take 4 (drop (at + 4) xs) ++ two i)) ∙ (λ i. take 4 ys ++ three i) ∙ sym (take-add 4 12 ys)

-- two lists with the same elements from a position on have the same elements from each later position on
pub drop_later : (m n : ℕ) (xs ys : List ℕ) → m ≤ n → drop m xs ≡ drop m ys → drop n xs ≡ drop n ys
drop_later m n xs ys le same =
    let e : n ≡ m + (n - m) = omega arith in
    ap (λ k. drop k xs) e ∙ sym (drop-drop (n - m) m xs) ∙ ap (drop (n - m)) same
    ∙ drop-drop (n - m) m ys ∙ ap (λ k. drop k ys) (sym e)

-- four parts, each written after the one before
pub take_written : (at : ℕ) (b₀ b₁ b₂ b₃ b₄ w₀ w₁ w₂ w₃ : List ℕ)
    → take (at + 4) b₁ ≡ take at b₀ ++ w₀
    → take (at + 4 + 4) b₂ ≡ take (at + 4) b₁ ++ w₁
    → take (at + 8 + 4) b₃ ≡ take (at + 8) b₂ ++ w₂
    → take (at + 12 + 4) b₄ ≡ take (at + 12) b₃ ++ w₃
    → take (at + 16) b₄ ≡ take at b₀ ++ (w₀ ++ (w₁ ++ (w₂ ++ w₃)))
take_written at b₀ b₁ b₂ b₃ b₄ w₀ w₁ w₂ w₃ e₁ e₂ e₃ e₄ =
    let eight : at + 8 ≡ at + 4 + 4 = omega arith in
    let twelve : at + 12 ≡ at + 8 + 4 = omega arith in
    let sixteen : at + 16 ≡ at + 12 + 4 = omega arith in
    let f₂ : take (at + 8) b₂ ≡ (take at b₀ ++ w₀) ++ w₁ = ap (λ k. take k b₂) eight ∙ e₂ ∙ ap (λ x. x ++ w₁) e₁ in
    let f₃ : take (at + 12) b₃ ≡ ((take at b₀ ++ w₀) ++ w₁) ++ w₂ = ap (λ k. take k b₃) twelve ∙ e₃ ∙ ap (λ x. x ++ w₂) f₂ in
    let f₄ : take (at + 16) b₄ ≡ (((take at b₀ ++ w₀) ++ w₁) ++ w₂) ++ w₃ =
    ap (λ k. take k b₄) sixteen ∙ e₄ ∙ ap (λ x. x ++ w₃) f₃ in
    f₄ ∙ simp append_assoc
