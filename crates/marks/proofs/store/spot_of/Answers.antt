-- `store::spot_of` meets its contract: questions 1 to 3, then 17 of the store and of the name, then the spot.
use Rattle.lists.specs.Kit.{sym, ◌∙◌}
use Rattle.calls.specs.Marks.{store_length}
use Rattle.calls.proofs.AnswerLaws.{refused_not}
use Rattle.marks.proofs.{StoreLoops.{refused_site, site_is_good, good_size, good_length, not_store, not_named, all_good}}
use Rattle.marks.proofs.store.spot_of.Goals as goal

pub returns-in-Err : goal.returns-in-Err
unfolding store_length
returns-in-Err c = record { asked = refused_site _ _ _ _ c.args.store.now _ c.in-Err.ensures (refused_not c.in-Err.refusal); located = tt }

pub count_used-used-requires : goal.count_used-used-requires
unfolding store_length
count_used-used-requires c = good_length _ _ _ c.args.store.now (site_is_good _ _ _ c.args.name.now c.args.store.now c.in_default.ensures)

pub is_store-requires : goal.is_store-requires
unfolding store_length
is_store-requires c = (good_size _ _ _ _ (site_is_good _ _ _ c.args.name.now c.args.store.now c.in_default.ensures), c.count_used-used.ensures)

pub returns-then-not-is_store : goal.returns-then-not-is_store
unfolding store_length
returns-then-not-is_store c = record {
  asked = not_store _ _ _ c.args.name.now c.args.store.now c.in_default.ensures (sym c.is_store.ensures ∙ c.if-not-is_store.true);
  located = tt;
}

pub returns-then-not-is_name : goal.returns-then-not-is_name
unfolding store_length
returns-then-not-is_name c = record {
  asked = not_named _ _ _ c.args.name.now c.args.store.now c.in_default.ensures (sym c.is_store.ensures ∙ c.if-not-is_store.false)
      (sym c.is_name.ensures ∙ c.if-not-is_name.true);
  located = tt;
}

pub returns : goal.returns
unfolding store_length
returns c = record {
  asked = all_good _ _ _ c.args.name.now c.args.store.now c.in_default.ensures (sym c.is_store.ensures ∙ c.if-not-is_store.false)
      (sym c.is_name.ensures ∙ c.if-not-is_name.false);
  located = c.locate.ensures;
}
