use Rattle.daemon.proofs.accepting.accept_one.Goals as goal

-- what became of the link
pub returns-clause-accepts : goal.returns-clause-accepts
returns-clause-accepts g c =
    let admits = c.admit.ensures.admits in (
      (
        admits.round,
        record {
          gives = rw (admits.input_is, admits.output_is) (record {
            next = rw c.in-Some.is at c.in-Ok.ensures.next;
            new_input = rw c.in-Some.is at c.in-Ok.ensures.input;
            new_output = rw c.in-Some.is at c.in-Ok.ensures.output;
            counted = rw c.in-Some.is at c.in-Ok.ensures.given;
          });
          admitted = admits.admitted;
          hung = admits.hung;
        },
      ),
      c.in-Ok.ensures.still,
    )
