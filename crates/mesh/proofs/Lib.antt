-- The theory of the definitions, from the bottom up, a folder for each subject. Laws of lists are in crate lists.
-- the sizes of a site
pub mod Sizes
-- graphs and their links
pub mod GraphLaws
-- core numbers and k-orders: the certificate, peeling, running maxima
pub mod Cores
-- the one peel of both link calls; what an accepted link call keeps and changes
pub mod Links
-- links tables: rows as bits, read back, soundness, a site's tables
pub mod Tables
-- reachable radios, connected cores, the shell tree
pub mod Trees
-- the site image
pub mod Images
-- named marks: names in order, places, the store
pub mod Marks
-- the limits of the code
pub mod SiteLimits
