use Rattle.reader.proofs.Answers.{circuit_formed}
use Rattle.reader.proofs.lend_circuit.Goals as goal

pub invariant_of-result : goal.invariant_of-result
invariant_of-result c =
    let t = c.in_ok-header.field-0 in
    record { formed = circuit_formed c.args.text.now c.read_circuit.result c.read_circuit.new.records t.header t.count c.in_ok-header.was c.read_circuit.ensures.records_after c.read_circuit.ensures.filled }
