-- That a run is a history is in Means, that it takes the joint call as two in Joint, and which bytes a function reaches in Reach; Answers has the theorems.
pub mod Means
pub mod Joint
pub mod Reach
pub mod Answers
