-- Hashes that are compared with the attributes, pair by pair.
use Rattle.std.proofs.Common.{◌≡◌, ℕ, ◌+◌, ◌<◌, ◌≤◌, List, length, map, take, get_or, sym, ap, ◌∙◌, arith}
use Rattle.std.proofs.lemmas.List.{get_or-map, length-map, take_all, take_more_same}

module _ {X Y : Type 0} (f : X → Y) (ys : List Y) (xs : List X) where
  -- the elements at this position
  pub mapped_at : (place : ℕ) (y : Y) (x : X) → place < length ys → length ys ≡ length xs → y ≡ get_or ys place y → x ≡ get_or xs place x → ys ≡ map f xs → y ≡ f x
  mapped_at place y x within as_many is_y is_x same =
      let here : place < length xs = omega (arith, within, as_many) in
      is_y ∙ ap (λ l. get_or l place y) same ∙ get_or-map f xs place x y here ∙ sym (ap f is_x)

  pub mapped_more : (place : ℕ) (y : Y) (x : X) → place < length ys → length ys ≡ length xs → y ≡ get_or ys place y → x ≡ get_or xs place x → y ≡ f x → take place ys ≡ take place (map f xs)
      → take (place + 1) ys ≡ take (place + 1) (map f xs)
  mapped_more place y x within as_many is_y is_x is before =
      let there : place < length (map f xs) = omega (arith, within, as_many, length-map xs f) in
      let here : place < length xs = omega (arith, within, as_many) in
      take_more_same ys (map f xs) place y within there before (sym is_y ∙ is ∙ ap f is_x ∙ sym (get_or-map f xs place x y here))

  pub mapped_all : (place : ℕ) → length ys ≤ place → length ys ≡ length xs → take place ys ≡ take place (map f xs) → ys ≡ map f xs
  mapped_all place whole as_many before =
      let also : length (map f xs) ≤ place = omega (arith, whole, as_many, length-map xs f) in
      sym (take_all place ys whole) ∙ before ∙ take_all place (map f xs) also

  pub mapped_length : ys ≡ map f xs → length ys ≡ length xs
  mapped_length same = ap length same ∙ length-map xs f
