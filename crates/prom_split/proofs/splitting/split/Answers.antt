use Rattle.std.proofs.Common.{◌*◌, ◌/◌, ◌%◌, ◌^◌, ◌≡◌, sym, ap, subst, ◌∙◌, arith}
use Rattle.std.specs.Prelude.{map}
use Rattle.bpnf.specs.Image.{Image, IsImage}
use Rattle.field_decl.specs.Decls.{declaration_of}
use Rattle.prom_split.specs.Parts.{width_of}
use Rattle.prom_split.proofs.SplitSteps.{image_of, image_with, image_is, image_of_fits, written_push, are_images}
use Rattle.prom_split.proofs.Widths.{width_is, width_some, cover}
use Rattle.prom_split.proofs.splitting.split.Goals as goal

-- the image that a turn makes
made : (c : goal.After-of)
    → image_with c.args.decl.now.prom_bits c.of.result ≡ image_of c.args.decl.now.prom_bits c.args.words.now c.loop-place.place
made c =
    ap (image_with c.args.decl.now.prom_bits) c.of.ensures
    ∙ image_is c.args.decl.now.prom_bits c.args.words.now c.loop-place.place c.from.result c.in_ok-bytes.bytes.items c.from.ensures
    (c.in_ok-bytes.ensures
    ∙ ap (map (λ word. word / 2 ^ (c.loop-place.place * c.from.result) % 2 ^ c.args.decl.now.prom_bits)) c.as_slice.ensures.words)

pub new-requires : goal.new-requires
new-requires c =
    let decl = c.args.decl.now in
    subst (λ (image : Image). IsImage image) (sym (made c))
    (image_of_fits decl.prom_bits c.args.words.now c.loop-place.place (width_is decl.prom_bits decl.valid.bits) c.requires.count)

pub loop-place-preserved : goal.loop-place-preserved
loop-place-preserved c =
    let bits = c.args.decl.now.prom_bits in
    let same : c.new.result ≡ image_of bits c.args.words.now c.loop-place.place = c.new.ensures
    ∙ ap (image_with bits) c.of.ensures
    ∙ image_is bits c.args.words.now c.loop-place.place c.from.result c.in_ok-bytes.bytes.items c.from.ensures
    (c.in_ok-bytes.ensures ∙ ap (map (λ word. word / 2 ^ (c.loop-place.place * c.from.result) % 2 ^ bits)) c.as_slice.ensures.words) in
    rw c.in_ok-push.ensures.items
    (written_push bits c.args.words.now c.loop-place.place c.loop-place.proms.items c.new.result c.loop-place.invariant same)

pub returns : goal.returns
returns c =
    let decl = c.args.decl.now in
    let width = width_is decl.prom_bits decl.valid.bits in
    let all : c.loop-place.place ≡ c.prom_count-place-end.result = omega arith in
    let room = (cover (width_of (declaration_of decl)) decl.prom_bits width).room in
    are_images (declaration_of decl) c.args.words.now c.loop-place.place c.loop-place.proms.items width (width_some decl.prom_bits width)
    c.requires (all ∙ c.prom_count-place-end.ensures)
    (rw (all ∙ c.prom_count-place-end.ensures) room) c.loop-place.invariant
