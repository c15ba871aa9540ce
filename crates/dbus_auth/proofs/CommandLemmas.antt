-- What the command of a line says about the line.
use Rattle.std.proofs.Common.{◌≡◌, ℕ, ◌+◌, ◌^◌, ◌<◌, ◌==◌, Bool, true, false, cond, ◌⊎◌, inl, inr, List, [], ◌∷◌, ◌++◌, length, take, drop, get_or, Option, Some, None, Result, Ok, Err, refl, sym, ap, ◌∙◌, arith, codes, take-append-drop}
use Rattle.std.specs.Prelude.{◌↔◌, IsTrue, nat_lt, option_map, unwrap_or, position, decimal}
use Rattle.std.specs.Option.{option_map_or}
use Rattle.std.specs.Str.{bytes_eq}
use Rattle.std.proofs.lemmas.Bool.{lt-ltb, or_cases, or_left, or_right, eqb-true}
use Rattle.std.proofs.lemmas.List.{drop_more, nil_from_length}
use Rattle.std.proofs.lemmas.List.Quantifiers.{position-Some}
use Rattle.std.proofs.lemmas.Slice.Eq.{bytes_eq-Decides}
use Rattle.std.proofs.lemmas.Fmt.{IsAscii-decimal}
use Rattle.hex.proofs.HexLemmas.{decode_of-encode_lower, decode_of-encode_upper}
use Rattle.hex.specs.Hex.{decode_of, encode_lower, encode_upper, IsBytes}
use Rattle.hex.specs.declared.error.FromHexError.{FromHexError}
use Rattle.dbus_auth.specs.Commands.{is_ok_with, is_hex_of, is_accepted, external_of, auth_of, data_of, command_of}
use Rattle.dbus_auth.specs.Conversation.{IsAccepted}
use Rattle.dbus_auth.specs.Lines.{is_space, word_of, argument_of}
use Rattle.dbus_auth.specs.declared.command.Command.{Command}
use Rattle.dbus_auth.specs.declared.command.Command.TheVariants.{External, ExternalAccepted, OtherAuth, DataAccepted, OtherData, Cancel, Error, Begin, NegotiateUnixFd, Unknown}

-- the bytes that were read
read_bytes : (wanted : List ℕ) (d : Result (List ℕ) FromHexError) → is_ok_with wanted d ≡ true → d ≡ Ok wanted
read_bytes wanted (Ok bytes) h = ap Ok ((bytes_eq-Decides bytes wanted).0 h)
read_bytes wanted (Err fault) h = cc h

-- the test of an argument is the fact
pub is_accepted-iff : (uid : ℕ) (argument : List ℕ) → IsTrue (is_accepted uid argument) ↔ IsAccepted uid argument
unfolding is_accepted
is_accepted-iff uid argument = (
  λ h.
      elim (or_cases (length argument == 0) (is_hex_of argument (decimal uid)) h) [
        | inl empty ↦ inl (nil_from_length argument (eqb-true (length argument) 0 empty))
        | inr hex ↦ inr (read_bytes (decimal uid) (decode_of argument) hex)
      ],
  λ h.
      elim h [
        | inl empty ↦ or_left (length argument == 0) (is_hex_of argument (decimal uid)) (ap (λ (l : List ℕ). length l == 0) empty)
        | inr hex ↦
            or_right (length argument == 0) (is_hex_of argument (decimal uid))
            (ap (is_ok_with (decimal uid)) hex ∙ (bytes_eq-Decides (decimal uid) (decimal uid)).1 refl)
      ],
)

split_at : (line argument : List ℕ) (o : Option ℕ) → position is_space line ≡ o → option_map (λ place. drop (place + 1) line) o ≡ Some argument
    → line ≡ option_map_or (λ place. take place line) o line ++ (32 ∷ argument)
split_at line argument None is h = cc h
split_at line argument (Some place) is h =
    let found = position-Some is_space line place 0 is in
    let space : get_or line place 0 ≡ 32 = eqb-true (get_or line place 0) 32 found.1 in
    let behind : drop (place + 1) line ≡ argument = cc h in
    let seam : drop place line ≡ 32 ∷ argument = drop_more line place 0 found.0 ∙ ap (λ (c : ℕ). c ∷ drop (place + 1) line) space ∙ ap (λ (l : List ℕ). 32 ∷ l) behind in
    sym (take-append-drop place line) ∙ ap (λ (l : List ℕ). take place line ++ l) seam

-- a line with an argument is its word, a space and the argument
pub line_split : (line argument : List ℕ) → argument_of line ≡ Some argument → line ≡ word_of line ++ (32 ∷ argument)
line_split line argument h = split_at line argument (position is_space line) refl h

unsplit_at : (line : List ℕ) (o : Option ℕ) → option_map (λ place. drop (place + 1) line) o ≡ None → option_map_or (λ place. take place line) o line ≡ line
unsplit_at line None h = refl
unsplit_at line (Some place) h = cc h

-- a line without one is its word
pub line_unsplit : (line : List ℕ) → argument_of line ≡ None → word_of line ≡ line
line_unsplit line h = unsplit_at line (position is_space line) h

-- the words of a command, by the tests of a line
abbrev chain : Bool → Bool → Bool → Bool → Bool → Bool → Command → Command → Command
chain auth asked cancel error begin negotiate x y =
    cond auth x (cond asked y (cond cancel Cancel (cond error Error (cond begin Begin (cond negotiate NegotiateUnixFd Unknown)))))

-- whether the word is AUTH, or DATA
abbrev has_auth : Command → Bool
has_auth External = true
has_auth ExternalAccepted = true
has_auth OtherAuth = true
has_auth _ = false

abbrev has_data : Command → Bool
has_data DataAccepted = true
has_data OtherData = true
has_data _ = false

external_of-word : (uid : ℕ) (o : Option (List ℕ)) → has_auth (external_of uid o) ≡ true
external_of-word uid None = refl
external_of-word uid (Some argument) =
    elim (is_accepted uid argument) as (λ b. has_auth (cond b ExternalAccepted OtherAuth) ≡ true) [ true ↦ refl | false ↦ refl ]

auth_of-word : (uid : ℕ) (o : Option (List ℕ)) → has_auth (auth_of uid o) ≡ true
auth_of-word uid None = refl
auth_of-word uid (Some argument) =
    elim (bytes_eq (word_of argument) (codes "EXTERNAL")) as (λ b. has_auth (cond b (external_of uid (argument_of argument)) OtherAuth) ≡ true) [
      | true ↦ external_of-word uid (argument_of argument)
      | false ↦ refl
    ]

data_of-word : (uid : ℕ) (o : Option (List ℕ)) → has_data (data_of uid o) ≡ true
data_of-word uid o =
    elim (is_accepted uid (unwrap_or o [])) as (λ b. has_data (cond b DataAccepted OtherData) ≡ true) [ true ↦ refl | false ↦ refl ]

-- a command can't be that of the word AUTH and that of the word DATA
not_both : (z : Command) → has_auth z ≡ true → has_data z ≡ true → ⊥
not_both DataAccepted a d = cc a
not_both OtherData a d = cc a
not_both External a d = cc d
not_both ExternalAccepted a d = cc d
not_both OtherAuth a d = cc d
not_both _ a d = cc a

chain-auth : (auth asked cancel error begin negotiate : Bool) (x y z : Command) → has_data y ≡ true → has_auth z ≡ true
    → chain auth asked cancel error begin negotiate x y ≡ z → (auth ≡ true) × (x ≡ z)
chain-auth true asked cancel error begin negotiate x y z dy az h = (refl, h)
chain-auth false true cancel error begin negotiate x y z dy az h =
    let both : has_auth y ≡ true = ap has_auth h ∙ az in absurd (not_both y both dy)
chain-auth false false true error begin negotiate x y z dy az h = cc (ap has_auth h ∙ az)
chain-auth false false false true begin negotiate x y z dy az h = cc (ap has_auth h ∙ az)
chain-auth false false false false true negotiate x y z dy az h = cc (ap has_auth h ∙ az)
chain-auth false false false false false true x y z dy az h = cc (ap has_auth h ∙ az)
chain-auth false false false false false false x y z dy az h = cc (ap has_auth h ∙ az)

chain-data : (auth asked cancel error begin negotiate : Bool) (x y z : Command) → has_auth x ≡ true → has_data z ≡ true
    → chain auth asked cancel error begin negotiate x y ≡ z → (asked ≡ true) × (y ≡ z)
chain-data true asked cancel error begin negotiate x y z ax dz h =
    let both : has_data x ≡ true = ap has_data h ∙ dz in absurd (not_both x ax both)
chain-data false true cancel error begin negotiate x y z ax dz h = (refl, h)
chain-data false false true error begin negotiate x y z ax dz h = cc (ap has_data h ∙ dz)
chain-data false false false true begin negotiate x y z ax dz h = cc (ap has_data h ∙ dz)
chain-data false false false false true negotiate x y z ax dz h = cc (ap has_data h ∙ dz)
chain-data false false false false false true x y z ax dz h = cc (ap has_data h ∙ dz)
chain-data false false false false false false x y z ax dz h = cc (ap has_data h ∙ dz)

chain-begin : (auth asked cancel error begin negotiate : Bool) (x y : Command) → has_auth x ≡ true → has_data y ≡ true
    → chain auth asked cancel error begin negotiate x y ≡ Begin → begin ≡ true
chain-begin true asked cancel error begin negotiate x y ax dy h = cc (sym (ap has_auth h) ∙ ax)
chain-begin false true cancel error begin negotiate x y ax dy h = cc (sym (ap has_data h) ∙ dy)
chain-begin false false true error begin negotiate x y ax dy h = cc h
chain-begin false false false true begin negotiate x y ax dy h = cc h
chain-begin false false false false true negotiate x y ax dy h = refl
chain-begin false false false false false true x y ax dy h = cc h
chain-begin false false false false false false x y ax dy h = cc h

external_of-accepted : (uid : ℕ) (o : Option (List ℕ)) → external_of uid o ≡ ExternalAccepted
    → (argument : List ℕ) × (is_accepted uid argument ≡ true) × (o ≡ Some argument)
external_of-accepted uid None h = cc h
external_of-accepted uid (Some argument) h =
    elim (is_accepted uid argument) as (λ b. is_accepted uid argument ≡ b → (other : List ℕ) × (is_accepted uid other ≡ true) × (Some argument ≡ Some other)) [
      | true ↦ λ e. (argument, e, refl)
      | false ↦ λ e. cc (sym (ap (λ b. cond b ExternalAccepted OtherAuth) e) ∙ h)
    ] refl

auth_of-accepted : (uid : ℕ) (o : Option (List ℕ)) → auth_of uid o ≡ ExternalAccepted
    → (argument : List ℕ) × (is_accepted uid argument ≡ true) × (o ≡ Some (codes "EXTERNAL " ++ argument))
auth_of-accepted uid None h = cc h
auth_of-accepted uid (Some whole) h =
    elim (bytes_eq (word_of whole) (codes "EXTERNAL"))
    as (λ b. bytes_eq (word_of whole) (codes "EXTERNAL") ≡ b → (argument : List ℕ) × (is_accepted uid argument ≡ true) × (Some whole ≡ Some (codes "EXTERNAL " ++ argument))) [
      | true ↦ λ e.
          let r = external_of-accepted uid (argument_of whole) (sym (ap (λ b. cond b (external_of uid (argument_of whole)) OtherAuth) e) ∙ h) in
          let word : word_of whole ≡ codes "EXTERNAL" = (bytes_eq-Decides (word_of whole) (codes "EXTERNAL")).0 e in
          (r.0, r.1, ap Some (line_split whole r.0 r.2 ∙ ap (λ (w : List ℕ). w ++ (32 ∷ r.0)) word))
      | false ↦ λ e. cc (sym (ap (λ b. cond b (external_of uid (argument_of whole)) OtherAuth) e) ∙ h)
    ] refl

data_of-accepted : (uid : ℕ) (o : Option (List ℕ)) → data_of uid o ≡ DataAccepted → is_accepted uid (unwrap_or o []) ≡ true
data_of-accepted uid o h =
    elim (is_accepted uid (unwrap_or o [])) as (λ b. is_accepted uid (unwrap_or o []) ≡ b → b ≡ true) [
      | true ↦ λ e. refl
      | false ↦ λ e. cc (sym (ap (λ b. cond b DataAccepted OtherData) e) ∙ h)
    ] refl

-- the line of an accepted AUTH
pub command_of-auth : (uid : ℕ) (line : List ℕ) → command_of uid line ≡ ExternalAccepted
    → (argument : List ℕ) × (is_accepted uid argument ≡ true) × (line ≡ codes "AUTH EXTERNAL " ++ argument)
unfolding command_of
command_of-auth uid line h =
    let c = chain-auth _ _ _ _ _ _ (auth_of uid (argument_of line)) (data_of uid (argument_of line)) ExternalAccepted (data_of-word uid (argument_of line)) refl h in
    let r = auth_of-accepted uid (argument_of line) c.1 in
    let word : word_of line ≡ codes "AUTH" = (bytes_eq-Decides (word_of line) (codes "AUTH")).0 c.0 in
    (r.0, r.1, line_split line (codes "EXTERNAL " ++ r.0) r.2 ∙ ap (λ (w : List ℕ). w ++ (32 ∷ (codes "EXTERNAL " ++ r.0))) word)

-- the line of an accepted DATA
data_line_of : (uid : ℕ) (line : List ℕ) (o : Option (List ℕ)) → argument_of line ≡ o → word_of line ≡ codes "DATA" → is_accepted uid (unwrap_or o []) ≡ true
    → ((argument : List ℕ) × (is_accepted uid argument ≡ true) × (line ≡ codes "DATA " ++ argument)) ⊎ (line ≡ codes "DATA")
data_line_of uid line None is word h = inr (sym (line_unsplit line is) ∙ word)
data_line_of uid line (Some argument) is word h =
    inl (argument, h, line_split line argument is ∙ ap (λ (w : List ℕ). w ++ (32 ∷ argument)) word)

pub command_of-data : (uid : ℕ) (line : List ℕ) → command_of uid line ≡ DataAccepted
    → ((argument : List ℕ) × (is_accepted uid argument ≡ true) × (line ≡ codes "DATA " ++ argument)) ⊎ (line ≡ codes "DATA")
unfolding command_of
command_of-data uid line h =
    let c = chain-data _ _ _ _ _ _ (auth_of uid (argument_of line)) (data_of uid (argument_of line)) DataAccepted (auth_of-word uid (argument_of line)) refl h in
    let word : word_of line ≡ codes "DATA" = (bytes_eq-Decides (word_of line) (codes "DATA")).0 c.0 in
    data_line_of uid line (argument_of line) refl word (data_of-accepted uid (argument_of line) c.1)

-- the line of BEGIN
pub command_of-begin : (uid : ℕ) (line : List ℕ) → command_of uid line ≡ Begin → word_of line ≡ codes "BEGIN"
unfolding command_of
command_of-begin uid line h =
    (bytes_eq-Decides (word_of line) (codes "BEGIN")).0
    (chain-begin _ _ _ _ _ _ (auth_of uid (argument_of line)) (data_of uid (argument_of line)) (auth_of-word uid (argument_of line)) (data_of-word uid (argument_of line)) h)

-- and conversely
pub command_of-with_begin : (uid : ℕ) (line : List ℕ) → word_of line ≡ codes "BEGIN" → command_of uid line ≡ Begin
unfolding command_of
command_of-with_begin uid line h =
    ap (λ (w : List ℕ). chain (bytes_eq w (codes "AUTH")) (bytes_eq w (codes "DATA")) (bytes_eq w (codes "CANCEL")) (bytes_eq w (codes "ERROR")) (bytes_eq w (codes "BEGIN")) (bytes_eq w (codes "NEGOTIATE_UNIX_FD")) (auth_of uid (argument_of line)) (data_of uid (argument_of line))) h

-- the first space comes after a word of n letters
spaced : (line : List ℕ) (n : ℕ) → n < length line → cond (nat_lt n (length line)) (Some n) None ≡ Some n
spaced line n long = ap (λ b. cond b (Some n) None) (lt-ltb n (length line) long)

-- the parts of a line whose first space is known
word_at : (line : List ℕ) (place : ℕ) → position is_space line ≡ Some place → word_of line ≡ take place line
word_at line place is = ap (λ (o : Option ℕ). option_map_or (λ i. take i line) o line) is

argument_at : (line : List ℕ) (place : ℕ) → position is_space line ≡ Some place → argument_of line ≡ Some (drop (place + 1) line)
argument_at line place is = ap (λ (o : Option ℕ). option_map (λ i. drop (i + 1) line) o) is

-- the command of a line, by its word and its argument
abbrev command_by : ℕ → List ℕ → Option (List ℕ) → Command
command_by uid word argument =
    chain (bytes_eq word (codes "AUTH")) (bytes_eq word (codes "DATA")) (bytes_eq word (codes "CANCEL")) (bytes_eq word (codes "ERROR")) (bytes_eq word (codes "BEGIN")) (bytes_eq word (codes "NEGOTIATE_UNIX_FD")) (auth_of uid argument) (data_of uid argument)

command_of-by : (uid : ℕ) (line word : List ℕ) (argument : Option (List ℕ)) → word_of line ≡ word → argument_of line ≡ argument → command_of uid line ≡ command_by uid word argument
unfolding command_of
command_of-by uid line word argument w a =
    ap (λ (l : List ℕ). command_by uid l (argument_of line)) w ∙ ap (λ (o : Option (List ℕ)). command_by uid word o) a

auth_of-by : (uid : ℕ) (whole : List ℕ) (argument : Option (List ℕ)) → word_of whole ≡ codes "EXTERNAL" → argument_of whole ≡ argument → auth_of uid (Some whole) ≡ external_of uid argument
auth_of-by uid whole argument w a =
    ap (λ (l : List ℕ). cond (bytes_eq l (codes "EXTERNAL")) (external_of uid (argument_of whole)) OtherAuth) w ∙ ap (external_of uid) a

-- the command of AUTH EXTERNAL with an argument
pub command_of-with_auth : (uid : ℕ) (argument : List ℕ) → command_of uid (codes "AUTH EXTERNAL " ++ argument) ≡ cond (is_accepted uid argument) ExternalAccepted OtherAuth
command_of-with_auth uid argument =
    let line : List ℕ = codes "AUTH EXTERNAL " ++ argument in
    let whole : List ℕ = codes "EXTERNAL " ++ argument in
    let first : position is_space line ≡ Some 4 = spaced line 4 (omega arith) in
    let second : position is_space whole ≡ Some 8 = spaced whole 8 (omega arith) in
    command_of-by uid line (codes "AUTH") (Some whole) (word_at line 4 first) (argument_at line 4 first)
    ∙ auth_of-by uid whole (Some argument) (word_at whole 8 second) (argument_at whole 8 second)

-- the command of DATA with an argument
pub command_of-with_data : (uid : ℕ) (argument : List ℕ) → command_of uid (codes "DATA " ++ argument) ≡ cond (is_accepted uid argument) DataAccepted OtherData
command_of-with_data uid argument =
    let line : List ℕ = codes "DATA " ++ argument in
    let first : position is_space line ≡ Some 4 = spaced line 4 (omega arith) in
    command_of-by uid line (codes "DATA") (Some argument) (word_at line 4 first) (argument_at line 4 first)

-- the command of DATA alone
pub command_of-with_data_alone : (uid : ℕ) → command_of uid (codes "DATA") ≡ DataAccepted
unfolding command_of is_accepted
command_of-with_data_alone uid = refl

-- the user id in hex of either case
bytes_decimal : (uid : ℕ) → uid < 2 ^ 64 → IsBytes (decimal uid)
bytes_decimal uid small k = let low = IsAscii-decimal uid small k in omega arith

pub is_accepted-lower : (uid : ℕ) → uid < 2 ^ 64 → IsTrue (is_accepted uid (encode_lower (decimal uid)))
is_accepted-lower uid small =
    (is_accepted-iff uid (encode_lower (decimal uid))).1 (inr (decode_of-encode_lower (decimal uid) (bytes_decimal uid small)))

pub is_accepted-upper : (uid : ℕ) → uid < 2 ^ 64 → IsTrue (is_accepted uid (encode_upper (decimal uid)))
is_accepted-upper uid small =
    (is_accepted-iff uid (encode_upper (decimal uid))).1 (inr (decode_of-encode_upper (decimal uid) (bytes_decimal uid small)))
