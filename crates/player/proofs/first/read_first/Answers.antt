-- `first::read_first` meets its contract: the line is what the reads brought.
use Rattle.lists.specs.Kit.{sym, ap, ◌∙◌, inl, inr, List, ℕ, arith, length-take-le}
use Rattle.player.specs.{First.{some_radios}, Play.{radios_of}, Reading.{ReadsFirst}}
use Rattle.player.proofs.{ReadLaws.{fills_front}, StatusLaws.{few_named, unbroken_on, unbroken_ended}}
use Rattle.player.proofs.first.read_first.Goals as goal

pub slice_bounds-radios_of-end : goal.slice_bounds-radios_of-end
slice_bounds-radios_of-end g c = sym (length-take-le _ _ (omega (arith, c.fill-got.ensures.counts.0)))

pub returns-in-Failed : goal.returns-in-Failed
unfolding ReadsFirst
returns-in-Failed g c = tt

pub returns-in-GoesOn : goal.returns-in-GoesOn
unfolding ReadsFirst
returns-in-GoesOn g c =
    let fills = c.fill-got.ensures.fills in
    let names = c.radios_of.ensures ∙ ap (λ (xs : List ℕ). some_radios (radios_of xs)) (fills_front _ _ _ (omega arith)
    (omega (arith, c.fill-got.ensures.counts.0)) fills) in
    record {
      reads = fills.reads;
      names = names;
      few = few_named _ _ names;
      going = fills.going;
      ended = fills.ended;
      unbroken = elim c.in-GoesOn.is [ inl e ↦ unbroken_on _ e fills.going | inr e ↦ unbroken_ended _ e fills.ended ];
    }
