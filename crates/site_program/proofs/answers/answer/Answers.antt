-- `answers::answer` meets its contract: each case is the contract of its verb.
use Rattle.lists.specs.Kit.{refl}
use Rattle.text.specs.Print.{put}
use Rattle.site_program.specs.{Texts.{TextBy}, Said.{Said}}
use Rattle.site_program.proofs.{SaidLaws.{as_verb}}
use Rattle.site_program.proofs.answers.answer.Goals as goal

pub returns-in-Help : goal.returns-in-Help
unfolding Said TextBy put
returns-in-Help c = as_verb _ _ _ _ _ _ _ c.in-Help.is (record { number = refl; puts = record { is = refl } })

pub returns-in-Check : goal.returns-in-Check
unfolding Said TextBy
returns-in-Check c = as_verb _ _ _ _ _ _ _ c.in-Check.is (record { number = refl; puts = c.put_check.ensures })

pub returns-in-Numbers : goal.returns-in-Numbers
unfolding Said TextBy
returns-in-Numbers c = as_verb _ _ _ _ _ _ _ c.in-Numbers.is (record { number = refl; puts = c.put_numbers_line.ensures })

pub returns-in-Sheet : goal.returns-in-Sheet
unfolding Said
returns-in-Sheet c = as_verb _ _ _ _ _ _ _ c.in-Sheet.is (rw c.written.ensures c.sheet.ensures)

pub returns-in-Script : goal.returns-in-Script
unfolding Said
returns-in-Script c = as_verb _ _ _ _ _ _ _ c.in-Script.is (rw c.written-in-Script.ensures c.write.ensures)

pub returns-in-Image : goal.returns-in-Image
unfolding Said
returns-in-Image c = as_verb _ _ _ _ _ _ _ c.in-Image.is (rw c.written-in-Image.ensures c.write-in-Image.ensures)

pub returns-in-Backbone : goal.returns-in-Backbone
unfolding Said
returns-in-Backbone c = as_verb _ _ _ _ _ _ _ c.in-Backbone.is c.backbone.ensures

pub returns-in-Staircase : goal.returns-in-Staircase
unfolding Said
returns-in-Staircase c = as_verb _ _ _ _ _ _ _ c.in-Staircase.is c.staircase.ensures

pub returns-in-Tree : goal.returns-in-Tree
unfolding Said
returns-in-Tree c = as_verb _ _ _ _ _ _ _ c.in-Tree.is c.tree.ensures

pub returns-in-Core : goal.returns-in-Core
unfolding Said
returns-in-Core c = as_verb _ _ _ _ _ _ _ c.in-Core.is c.core.ensures

pub returns-in-Lift : goal.returns-in-Lift
unfolding Said
returns-in-Lift c = as_verb _ _ _ _ _ _ _ c.in-Lift.is c.lift.ensures

pub returns-in-Unknown : goal.returns-in-Unknown
unfolding Said TextBy put
returns-in-Unknown c = as_verb _ _ _ _ _ _ _ c.in-Unknown.is (record { number = refl; puts = record { is = refl } })
