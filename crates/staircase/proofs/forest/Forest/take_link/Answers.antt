-- `take_link` meets its contract: ends with one parent, or with one root, are of one part; else the two entries are written and one
-- root goes under the other, as `grown_one` says.
use Rattle.lists.specs.Kit.{refl, ◌∙◌, inl, arith}
use Rattle.mesh.specs.Graph.{link_of}
use Rattle.staircase.proofs.{TakingLaws.{taken_near, taken_same, taken_new, higher_radio}}
use Rattle.staircase.proofs.forest.Forest.take_link.Goals as goal

pub bounds-self-a : goal.bounds-self-a
bounds-self-a c = (c.requires.inside (link_of c.args.a c.args.b) (inl refl)).0

pub bounds-self-b : goal.bounds-self-b
bounds-self-b c = (c.requires.inside (link_of c.args.a c.args.b) (inl refl)).1

pub returns-then-self-a : goal.returns-then-self-a
returns-then-self-a c =
    let ends = c.requires.inside (link_of c.args.a c.args.b) (inl refl) in record {
      table = refl;
      long = refl;
      is = taken_near c.args.a c.args.b _ _ _ c.args.self.now.rooted ends.0 ends.1 c.if-self-a.true;
    }

pub root-x-requires : goal.root-x-requires
root-x-requires c = (c.args.self.now.rooted, (c.requires.inside (link_of c.args.a c.args.b) (inl refl)).0)

pub root-y-requires : goal.root-y-requires
root-y-requires c =
    let ends = c.requires.inside (link_of c.args.a c.args.b) (inl refl) in
    (c.root-x.ensures.parents, omega (arith, ends.1, c.root-x.auto.parents))

pub returns-then-x-y : goal.returns-then-x-y
returns-then-x-y c = record {
  table = refl;
  long = c.root-y.auto.parents ∙ c.root-x.auto.parents;
  is = taken_same _ _ _ c.args.self.now.table.now c.args.self.now.count _ _ _ _ c.root-x.ensures c.root-y.ensures c.if-x-y.true;
}

pub join-requires : goal.join-requires
join-requires c =
    let ends = c.requires.inside (link_of c.args.a c.args.b) (inl refl) in
    let higher =
    higher_radio _ _ _ c.args.self.now.table.now c.args.self.now.count _ _ _ _ c.root-x.ensures c.root-y.ensures
    (c.root-y.auto.parents ∙ c.root-x.auto.parents) ends.0 ends.1 in
    (omega (arith, higher), omega (arith, higher))

pub returns : goal.returns
returns c =
    let ends = c.requires.inside (link_of c.args.a c.args.b) (inl refl) in
    let long = c.root-y.auto.parents ∙ c.root-x.auto.parents in record {
      table = refl;
      long = c.join.auto.parents ∙ long;
      is = rw c.join.ensures (taken_new _ _ _ c.args.self.now.table.now c.args.self.now.count _ _ _ _ c.root-x.ensures c.root-y.ensures long
          ends.0 ends.1 _ _ _ _ c.if-x-y.false refl refl c.put16.ensures c.put16-2.ensures);
    }
