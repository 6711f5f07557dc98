-- Laws of questions 4 to 7.
pub mod EndsLaws
-- a list copied over a part of another
pub mod Pasted
-- Laws of the walk's places.
pub mod PlaceLaws
-- a level's numbers counted part by part
pub mod LevelCounts
-- entries at the places of a set, listed
pub mod EntryLists
-- the leaves of the walk by words
pub mod WordLaws
-- Laws of link calls.
-- all questions, what a plan is made from and what it is applied to
pub mod Asking
-- the turns of the peel: the loops over counters and fitting places, and what they come to
pub mod TurnLoops
-- the neighbours of a radio after the call
pub mod NearLaws
-- the loops over a level's stretch
pub mod StretchLoops
-- what releasing comes to
pub mod TurnLaws
-- the stretch of a level, and the turns of its peel
pub mod LevelLaws
pub mod PeelTurns
pub mod PeelLoop
-- what stands before the first turn
pub mod BeginLaws
-- a link call's plan, from sound tables
pub mod PlanLevel
pub mod PlanStart
pub mod PlanEnd
pub mod PlanCall
-- the plan of a level that rises whole
pub mod RisePlan
-- the plan of a link going down
pub mod FallPlan
-- a call refused and accepted
pub mod CallLaws
-- the walk of a link going up: its loops, what its turns write, the turns
pub mod WalkLoops
pub mod WalkReleased
pub mod WalkHeld
pub mod WalkTurns
pub mod WalkMade
pub mod WalkSteps
pub mod WalkPlan
-- the walk by words: its turns
pub mod WordTurns
-- its functions in a linked program
pub mod World
