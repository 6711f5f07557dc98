-- `names::takes` meets its contract, verb by verb.
use Rattle.lists.specs.Kit.{rules}
use Rattle.site_program.specs.Names.{numbers_of}
use Rattle.site_program.proofs.names.takes.Goals as goal

pub returns-in-Help : goal.returns-in-Help
unfolding numbers_of
returns-in-Help c = search rules

pub returns-in-Check : goal.returns-in-Check
unfolding numbers_of
returns-in-Check c = search rules

pub returns-in-Numbers : goal.returns-in-Numbers
unfolding numbers_of
returns-in-Numbers c = search rules

pub returns-in-Sheet : goal.returns-in-Sheet
unfolding numbers_of
returns-in-Sheet c = search rules

pub returns-in-Script : goal.returns-in-Script
unfolding numbers_of
returns-in-Script c = search rules

pub returns-in-Image : goal.returns-in-Image
unfolding numbers_of
returns-in-Image c = search rules

pub returns-in-Backbone : goal.returns-in-Backbone
unfolding numbers_of
returns-in-Backbone c = search rules

pub returns-in-Staircase : goal.returns-in-Staircase
unfolding numbers_of
returns-in-Staircase c = search rules

pub returns-in-Tree : goal.returns-in-Tree
unfolding numbers_of
returns-in-Tree c = search rules

pub returns-in-Core : goal.returns-in-Core
unfolding numbers_of
returns-in-Core c = search rules

pub returns-in-Lift : goal.returns-in-Lift
unfolding numbers_of
returns-in-Lift c = search rules

pub returns-in-Unknown : goal.returns-in-Unknown
unfolding numbers_of
returns-in-Unknown c = search rules
