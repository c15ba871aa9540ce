use Rattle.daemon.proofs.accepting.hang_up.Goals as goal

-- both were closed
pub returns : goal.returns
returns g c =
    let input = c.close.ensures in
    let output = c.close-2.ensures in
    record {
      input_after = c.close.new.self;
      output_after = c.close-2.new.self;
      input_is = λ i. record { left = input.left i; faults = input.count i; is_steady = input.steady i; is_closed = input.closed i };
      output_is = λ i. record { written = output.written i; faults = output.count i; is_steady = output.steady i; is_closed = output.closed i };
    }
