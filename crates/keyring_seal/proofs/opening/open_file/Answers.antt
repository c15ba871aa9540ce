use Rattle.std.proofs.Common.{subst}
use Rattle.key_derivation.specs.Kdf.{key_of, vector_of}
use Rattle.keyring_text.specs.FieldReading.{Gives}
use Rattle.keyring_seal.specs.Arranged.{IsSealable}
use Rattle.keyring_seal.specs.Whole.{IsFileOf}
use Rattle.keyring_seal.proofs.WholeLemmas.{sealable, then_holds}
use Rattle.keyring_seal.proofs.opening.open_file.Goals as goal

pub returns-clause-only : goal.returns-clause-only
returns-clause-only c = λ content is. subst (λ read. Gives (λ opened. opened) c.content_of.result read) (c.a_file_of_a_content_opens_to_it.ensures c.args.file.now (key_of c.args.key.now) (vector_of c.args.key.now) content is) c.content_of.ensures.exact

pub returns-clause-sealable : goal.returns-clause-sealable
returns-clause-sealable c = then_holds (IsFileOf c.args.file.now (key_of c.args.key.now) (vector_of c.args.key.now)) IsSealable c.content_of.result (sealable c.args.file.now (key_of c.args.key.now) (vector_of c.args.key.now)) c.content_of.ensures.found
