use Rattle.life_census.specs.Cluster.{clusters_of}
use Rattle.life_census.proofs.ClusterLaws.{one_list_of_clusters}
use Rattle.life_census.proofs.ClusterListing.{clusters_are, one_cluster_each}
use Rattle.life_census.proofs.census_laws.laws_of_clusters.Goals as goal

pub returns-clause-are : goal.returns-clause-are
returns-clause-are c = clusters_are

pub returns-clause-one_list : goal.returns-clause-one_list
returns-clause-one_list c X Ps are = one_list_of_clusters X Ps (clusters_of X) are (clusters_are X)

pub returns-clause-one_cluster : goal.returns-clause-one_cluster
returns-clause-one_cluster c = one_cluster_each
