-- The lines of a text, one by one.
use Rattle.std.proofs.Common.{◌≡◌, ℕ, ◌<◌, List, [], ◌∷◌, ◌++◌, ◌+◌, suc, length, refl, sym, ◌∙◌, ap, arith}
use Rattle.std.specs.List.{All}
use Rattle.std.proofs.lemmas.List.{append_assoc, length-append}
use Rattle.std.proofs.lemmas.List.Elements.{All-nil, All-push}
use Rattle.kr_base.specs.Attributes.{Gathers}
use Rattle.alias_text.specs.Line.{IsCut}
use Rattle.alias_text.specs.Pairs.{ended, IsOneLine, Gives, LinesGive, nothing}

-- a part of the text was read: its lines, and the pairs that they give
pub record Reading (bytes rest : List ℕ) (pairs : List (List ℕ × List ℕ)) : Type 0 where
  pub lines : List (List ℕ)
  pub spelled : bytes ≡ ended lines ++ rest
  pub apart : All IsOneLine lines
  pub gives : Gives lines pairs

append_nil : (a : List ℕ) → a ++ [] ≡ a
append_nil [] = refl
append_nil (x ∷ a) = ap (λ l. x ∷ l) (append_nil a)

ended_more : (lines : List (List ℕ)) (line : List ℕ) → ended (lines ++ line ∷ []) ≡ ended lines ++ (line ++ 10 ∷ [])
ended_more [] line = append_nil (line ++ 10 ∷ [])
ended_more (first ∷ lines) line =
    ap (λ l. (first ++ 10 ∷ []) ++ l) (ended_more lines line)
    ∙ sym (append_assoc (first ++ 10 ∷ []) (ended lines) (line ++ 10 ∷ []))

ended_before : (lines : List (List ℕ)) (line behind : List ℕ) → ended lines ++ (line ++ 10 ∷ behind) ≡ ended (lines ++ line ∷ []) ++ behind
ended_before lines line behind =
    ap (λ l. ended lines ++ l) (sym (append_assoc line (10 ∷ []) behind))
    ∙ sym (append_assoc (ended lines) (line ++ 10 ∷ []) behind)
    ∙ ap (λ l. l ++ behind) (sym (ended_more lines line))

pub Reading-none : (bytes : List ℕ) → Reading bytes bytes []
Reading-none bytes = record { lines = []; spelled = refl; apart = All-nil IsOneLine; gives = nothing }

-- one more line
pub Reading-more : (bytes rest line behind : List ℕ) (pairs next : List (List ℕ × List ℕ)) → Reading bytes rest pairs → IsCut 10 rest line behind
    → ((lines : List (List ℕ)) → Gives lines pairs → Gives (lines ++ line ∷ []) next) → Reading bytes behind next
Reading-more bytes rest line behind pairs next so_far cut adds = record {
  lines = so_far.lines ++ line ∷ [];
  spelled = so_far.spelled ∙ ap (λ l. ended so_far.lines ++ l) cut.spelled ∙ ended_before so_far.lines line behind;
  apart = All-push IsOneLine so_far.lines line so_far.apart cut.first;
  gives = adds so_far.lines so_far.gives;
}

-- after the last line
pub LinesGive-done : (bytes rest : List ℕ) (pairs aliases : List (List ℕ × List ℕ)) → Reading bytes rest pairs → IsOneLine rest → Gathers pairs aliases → LinesGive bytes aliases
LinesGive-done bytes rest pairs aliases so_far unended gathered = record {
  lines = so_far.lines;
  pairs = pairs;
  cut = record { rest = rest; spelled = so_far.spelled; apart = so_far.apart; unended = unended };
  given = so_far.gives;
  gathered = gathered;
}

-- each line is shorter than what was left
pub cut_shorter : (text front back : List ℕ) → IsCut 10 text front back → length back < length text
cut_shorter text front back cut =
    let long : length text ≡ length front + suc (length back) = ap length cut.spelled ∙ length-append front (10 ∷ back) in
    omega arith
