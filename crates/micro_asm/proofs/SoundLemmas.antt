-- What accepted lines keep.
use Rattle.std.proofs.Common.{◌≡◌, ℕ, ◌<◌, true, false, List, [], ◌∷◌, ◌++◌, length, sym, subst, ◌∙◌, arith}
use Rattle.std.proofs.lemmas.List.{length-append}
use Rattle.std.proofs.lemmas.List.Elements.{All-push}
use Rattle.micro_asm.specs.declared.accepted_lines.PinLine.{PinLine}
use Rattle.micro_asm.specs.declared.accepted_lines.NamedInstr.{NamedInstr}
use Rattle.micro_asm.specs.Earlier.{Facts, IsSound, IsNamedInstr, declaration_so_far, has_label, is_pinned, labels_of, pinned_labels, are_apart}
use Rattle.micro_asm.proofs.LabelLemmas.{label_among, labels_push, pinned_label, pinned_push, apart_push}

pub sound_pin : (facts : Facts) (pin : PinLine) → IsSound facts → is_pinned facts.pins pin.label ≡ false
    → IsSound (record facts { pins = facts.pins ++ pin ∷ [] })
sound_pin facts pin h new = record {
  some_row = h.some_row;
  most_rows = h.most_rows;
  few = h.few;
  labels_apart = h.labels_apart;
  pins_apart = subst (λ (names : List (List ℕ)). are_apart names ≡ true) (sym (pinned_push facts.pins pin))
      (apart_push (pinned_labels facts.pins) pin.label h.pins_apart (pinned_label pin.label facts.pins ∙ new));
  instrs = h.instrs;
}

pub sound_instr : (facts : Facts) (instr : NamedInstr) → IsSound facts → has_label facts.instrs instr.label ≡ false
    → length facts.instrs < 128 → IsNamedInstr (declaration_so_far facts.declared) instr
    → IsSound (record facts { instrs = facts.instrs ++ instr ∷ [] })
sound_instr facts instr h new few fits = record {
  some_row = h.some_row;
  most_rows = h.most_rows;
  few = omega (arith, length-append facts.instrs (instr ∷ []));
  labels_apart = subst (λ (names : List (List ℕ)). are_apart names ≡ true) (sym (labels_push facts.instrs instr))
      (apart_push (labels_of facts.instrs) instr.label h.labels_apart (label_among instr.label facts.instrs ∙ new));
  pins_apart = h.pins_apart;
  instrs = All-push (IsNamedInstr (declaration_so_far facts.declared)) facts.instrs instr h.instrs fits;
}
