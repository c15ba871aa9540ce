use Rattle.bus_address.proofs.PieceLemmas.{from_joined, to_joined}
use Rattle.bus_address.proofs.address_laws.pieces_are_joined_by_the_separator.Goals as goal

pub returns : goal.returns
returns c separator text first more = (from_joined separator text first more, to_joined separator text first more)
