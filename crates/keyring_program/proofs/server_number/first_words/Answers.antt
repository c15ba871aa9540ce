use Rattle.std.proofs.Common.{◌≡◌, ℕ, List, [], ◌∷◌, ◌++◌, ◌+◌, ◌%◌, ◌^◌, slice_index_or, sym, ◌∙◌, ap, append_assoc}
use Rattle.rand_chacha.specs.ChaCha.{key_of}
use Rattle.service_hub.specs.connection_worker.specs.Salts.{Salting, word_of, words_at}
use Rattle.keyring_program.proofs.server_number.first_words.Goals as goal

-- the bytes of two words are the words
cells-of : (key : List ℕ) (stream place : ℕ) (cells : List ℕ) → cells ≡ words_at key stream place
    → slice_index_or cells 0 0 ∷ slice_index_or cells 1 0 ∷ slice_index_or cells 2 0 ∷ slice_index_or cells 3 0
    ∷ slice_index_or cells 4 0 ∷ slice_index_or cells 5 0 ∷ slice_index_or cells 6 0 ∷ slice_index_or cells 7 0 ∷ [] ≡ words_at key stream place
unfolding word_of
cells-of key stream place cells is = ap (λ l. slice_index_or l 0 0 ∷ slice_index_or l 1 0 ∷ slice_index_or l 2 0 ∷ slice_index_or l 3 0
    ∷ slice_index_or l 4 0 ∷ slice_index_or l 5 0 ∷ slice_index_or l 6 0 ∷ slice_index_or l 7 0 ∷ []) is

pub returns : goal.returns
returns c =
    let key = key_of c.args.seed in
    let start = c.new-words.ensures in
    let words : Salting → List ℕ = λ s. words_at s.key s.stream s.place in
    let front = cells-of key 0 0 c.next.result (c.next.ensures.salt ∙ ap words start) in
    let keys = c.next.ensures.key ∙ ap (λ (s : Salting). s.key) start in
    let streams = c.next.ensures.stream ∙ ap (λ (s : Salting). s.stream) start in
    let places = c.next.ensures.place ∙ ap (λ (s : Salting). (s.place + 2) % 2 ^ 68) start in
    let rest = cells-of key 0 2 c.next-2.result (c.next-2.ensures.salt ∙ (λ i. words_at (keys i) (streams i) (places i))) in
    (λ i. front i ++ rest i) ∙ sym (append_assoc (words_at key 0 0) (word_of key 0 2) (word_of key 0 3))
