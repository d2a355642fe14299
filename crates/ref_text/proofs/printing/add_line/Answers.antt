use Rattle.std.proofs.Common.{◌≡◌, ◌++◌, codes, flat_map, append_assoc, rules}
use Rattle.std.proofs.lemmas.Result.{err_from_is_err_and}
use Rattle.ref_text.specs.Text.{number_word, literal_word}
use Rattle.ref_text.proofs.TextLemmas.{Begins-front}
use Rattle.ref_text.proofs.printing.add_line.Goals as goal

pub returns-in_err-add_numbers-clause-err : goal.returns-in_err-add_numbers-clause-err
returns-in_err-add_numbers-clause-err c =
    let p = err_from_is_err_and c.from_residual-in_err-add_numbers.result c.from_residual-in_err-add_numbers.ensures.1 in
    let text = number_word c.args.number ++ (flat_map literal_word c.args.line.now.clause ++ codes "0 ") in
    let so_far : c.extend_from_slice.new.self.items ≡ c.args.out.now.items ++ text = search (rules, append_assoc) in
    rw p.1 (Begins-front c.args.out.now.items text c.extend_from_slice.new.self.items c.add_numbers.new.out.items so_far
    c.in_err-add_numbers.ensures.err)
