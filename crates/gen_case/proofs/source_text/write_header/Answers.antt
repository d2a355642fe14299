-- The literal text is that of the declarations' pieces.
use Rattle.gen_case.proofs.TextLemmas.{header_is, grown_by}
use Rattle.gen_case.proofs.source_text.write_header.Goals as goal

pub returns : goal.returns
returns c = grown_by (λ v. v.items)
    c.args.text.now.items header_is c.extend_from_slice.result c.extend_from_slice.new.self c.extend_from_slice.ensures.items
